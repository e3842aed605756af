pub mod Truths
