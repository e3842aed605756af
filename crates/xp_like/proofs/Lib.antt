pub mod Reading
pub mod Greedy
