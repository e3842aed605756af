pub mod Lists
pub mod Ranges
pub mod Written
pub mod Others
