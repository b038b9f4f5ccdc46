pub mod Found
pub mod Newest
pub mod Scan
pub mod Window
