pub mod Arms
pub mod Halves
