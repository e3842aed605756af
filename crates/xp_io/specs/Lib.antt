pub mod Booleans
pub mod Forms
pub mod Integers
pub mod Representations
pub mod Space
pub mod inner
