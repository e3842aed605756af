pub mod Names
pub mod Modifiers
pub mod Named
pub mod Columns
