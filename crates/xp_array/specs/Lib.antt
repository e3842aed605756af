pub mod Made
pub mod Marks
pub mod Measured
pub mod Read
pub mod Searched
pub mod Strings
pub mod Written
pub mod inner
