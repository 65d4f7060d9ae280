pub mod Laws
pub mod Packed
pub mod Text
