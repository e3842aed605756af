pub mod Bytes
pub mod Grammar
pub mod Lexed
pub mod Meaning
pub mod inner
