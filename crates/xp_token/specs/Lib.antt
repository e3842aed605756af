pub mod Ended
pub mod Held
pub mod Lexemes
pub mod Words
