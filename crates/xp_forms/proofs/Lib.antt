pub mod Named
pub mod Fitting
pub mod AllAlike
pub mod Judging
pub mod Armed
pub mod Comparing
pub mod Elements
