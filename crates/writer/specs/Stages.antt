pub mod Compare
pub mod FileWrapper
pub mod Packing
pub mod Payload
