pub mod Examples
pub mod Itself
pub mod Laws
pub mod Only
