pub mod Pages
pub mod Reading
pub mod Sectors
pub mod Places
pub mod Below
pub mod Rest
pub mod Views
pub mod Turns
