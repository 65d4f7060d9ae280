pub mod Store
pub mod Edits
pub mod Model
pub mod Replies
pub mod Stages
pub mod Moves
