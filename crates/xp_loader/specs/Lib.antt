pub mod Loading
pub mod Reading
pub mod Records
pub mod Refusing
