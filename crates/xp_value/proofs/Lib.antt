pub mod Elements
pub mod Padding
pub mod Points
pub mod Powers
pub mod Rows
pub mod Signs
pub mod Total
