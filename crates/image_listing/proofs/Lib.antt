pub mod Orders
pub mod Keeping
pub mod LineText
pub mod Counting
pub mod Members
pub mod Sights
pub mod Listed
pub mod Told
