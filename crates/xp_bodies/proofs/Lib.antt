pub mod Agreeing
pub mod Count
pub mod Families
pub mod Rows
