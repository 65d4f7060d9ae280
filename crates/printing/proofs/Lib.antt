pub mod OutputLaws
pub mod ReadLaws
