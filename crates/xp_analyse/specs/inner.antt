-- Words that only private contracts need.
pub mod Ahead
pub mod Views
pub mod Untyped
