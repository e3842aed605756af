pub mod Checked
pub mod Kept
pub mod Rests
pub mod Term
pub mod Typed
pub mod View
pub mod inner
