pub mod Ascii
pub mod Progress
pub mod Reading
pub mod Steps
