pub mod Numbers
pub mod Quotients
pub mod Arithmetic
pub mod Places
pub mod Texts
pub mod inner
