pub mod Answers
pub mod Comparisons
pub mod Places
pub mod TextPlaces
