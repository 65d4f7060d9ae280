pub mod Canonical
pub mod HeaderLaws
pub mod Lengths
pub mod Payload
pub mod Strings
