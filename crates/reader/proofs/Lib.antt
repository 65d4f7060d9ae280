pub mod BuiltLaws
pub mod EmptyBlobLaws
pub mod FindingLaws
pub mod FrontLaws
pub mod NameLaws
pub mod ReadBack
pub mod ReplacementLaws
pub mod RoundTrip
