pub mod Encoded
pub mod FirstAt
pub mod Limits
