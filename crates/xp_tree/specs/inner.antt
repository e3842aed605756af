pub mod Coding
pub mod Falls
pub mod Heights
pub mod Order
