pub mod Places
pub mod Pairs
pub mod Built
pub mod Considered
pub mod Bases
pub mod Converting
pub mod MoreCasts
pub mod Others
