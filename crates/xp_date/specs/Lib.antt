pub mod Days
pub mod Fields
pub mod Texts
