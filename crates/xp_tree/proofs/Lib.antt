pub mod Orders
pub mod Rest
