pub mod Made
pub mod Parts
pub mod Sets
pub mod Fields
