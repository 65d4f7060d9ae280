pub mod Count
pub mod Lossy
pub mod Same
pub mod Size
pub mod Terminated
