pub mod Arms
pub mod Comparing
