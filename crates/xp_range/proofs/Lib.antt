pub mod OfKind
pub mod Points
pub mod Given
pub mod ReadBack
