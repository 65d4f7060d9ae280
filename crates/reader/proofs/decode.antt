pub mod Both
pub mod Laws
