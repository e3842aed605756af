pub mod Nests
pub mod Parts
pub mod Reading
pub mod StatementParts
