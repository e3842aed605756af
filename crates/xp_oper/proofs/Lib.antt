pub mod Others
pub mod Named
pub mod Told
