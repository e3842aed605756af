pub mod Roles
pub mod Members
pub mod Acceptance
pub mod Bound
