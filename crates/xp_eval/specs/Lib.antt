pub mod inner
pub mod Permitted
pub mod Real
pub mod Sizes
