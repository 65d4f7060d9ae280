pub mod Laws
pub mod StringClass
