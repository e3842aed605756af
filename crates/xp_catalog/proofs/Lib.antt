pub mod Ascii
pub mod Keeps
pub mod KnownRows
pub mod OneRow
pub mod Places
