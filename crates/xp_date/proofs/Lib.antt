pub mod Parts
pub mod Weeks
pub mod Made
pub mod Digits
