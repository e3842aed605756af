pub mod Dividing
pub mod Reading
