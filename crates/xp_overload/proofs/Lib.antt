pub mod Marks
pub mod Left
pub mod Mapped
pub mod Survivors
