pub mod Answered
pub mod Extracted
pub mod Places
pub mod Trimmed
