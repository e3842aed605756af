pub mod Faults
pub mod Characters
pub mod Places
pub mod Search
