pub mod Records
pub mod Faults
pub mod Fields
pub mod Headers
pub mod Loading
pub mod Fits
pub mod inner
