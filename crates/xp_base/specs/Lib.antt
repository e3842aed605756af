pub mod Codes
pub mod FromLeft
pub mod Growth
pub mod Operators
pub mod OrMemory
pub mod Outside
pub mod Stored
