pub mod Bounds
pub mod Constructors
pub mod Relations
pub mod Sets
pub mod Texts
