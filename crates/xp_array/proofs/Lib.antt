pub mod Bytes
pub mod Cut
pub mod Elements
pub mod Lists
pub mod Shown
