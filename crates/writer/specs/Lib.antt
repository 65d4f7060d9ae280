pub mod Array
pub mod FileWrapper
pub mod Metadata
pub mod Replies
pub mod Spans
pub mod Stages
pub mod Words
