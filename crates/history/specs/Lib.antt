pub mod History
pub mod Stages
