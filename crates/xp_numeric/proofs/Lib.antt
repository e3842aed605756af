pub mod Limited
pub mod SignedSizes
pub mod Division
pub mod Leading
pub mod Rounded
pub mod Numerals
pub mod Digits
pub mod RoundTrip
