pub mod Candidates
pub mod Exact
pub mod Request
pub mod Picked
pub mod inner
