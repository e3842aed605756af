pub mod Asked
pub mod Coerced
pub mod Types
pub mod Ways
pub mod inner
