pub mod Strpos
pub mod Escapes
