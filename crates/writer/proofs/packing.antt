pub mod Laws
pub mod Sequences
