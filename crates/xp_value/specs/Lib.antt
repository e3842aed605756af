pub mod Elements
pub mod Names
pub mod Null
pub mod Order
pub mod Representation
