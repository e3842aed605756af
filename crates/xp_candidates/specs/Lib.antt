pub mod Forms
pub mod Known
pub mod Accepted
pub mod Slots
pub mod Bound
pub mod Chosen
pub mod inner
