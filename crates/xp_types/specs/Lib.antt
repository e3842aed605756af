pub mod Readers
pub mod Paths
pub mod Common
pub mod Within
pub mod MoreCasts
