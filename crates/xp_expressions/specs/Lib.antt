pub mod Operands
pub mod Words
pub mod Casts
pub mod Composed
pub mod Branches
pub mod Expressions
pub mod inner
