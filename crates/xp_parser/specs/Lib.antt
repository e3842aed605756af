pub mod Parses
pub mod WellFormed
pub mod inner
