pub mod Alike
pub mod Faults
