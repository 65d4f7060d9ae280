pub mod ArrayLaws
pub mod FileWrapperLaws
pub mod LayoutLaws
pub mod ShapeLaws
pub mod SpanLaws
pub mod StringWordLaws
pub mod WordLaws
