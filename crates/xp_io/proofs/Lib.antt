pub mod Back
pub mod Built
mod Bytes
pub mod Clean
pub mod Decimals
pub mod Digits
pub mod Fronts
pub mod Lexer
pub mod Scripts
pub mod Trimming
pub mod Widths
mod Printed
