pub mod Begins
pub mod Lists
pub mod Statements
pub mod Domains
pub mod Checks
pub mod inner
pub mod Untyped
