pub mod Latin9
pub mod Utf16
pub mod Utf8
