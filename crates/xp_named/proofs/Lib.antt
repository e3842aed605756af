pub mod ArrayTypes
pub mod Stripped
pub mod Taken
