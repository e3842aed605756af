pub mod Copies
pub mod Unpadded
pub mod Filled
pub mod Trimmed
pub mod Exchanged
pub mod Around
pub mod Cut
