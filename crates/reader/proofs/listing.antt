pub mod Index
pub mod Laws
