pub mod Single
pub mod Texts
