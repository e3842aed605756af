pub mod Places
pub mod Matches
pub mod Categories
pub mod Choosing
pub mod inner
