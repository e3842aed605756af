-- What only this crate's private contracts and proofs need.
pub mod Cutting
