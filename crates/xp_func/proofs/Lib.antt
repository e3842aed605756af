pub mod Others
pub mod ExactAt
pub mod Named
pub mod Told
