pub mod Fits
pub mod Row
pub mod Table
