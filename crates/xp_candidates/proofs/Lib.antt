pub mod Found
pub mod Places
pub mod InOrder
pub mod Listed
pub mod Among
pub mod Made
pub mod There
pub mod Others
