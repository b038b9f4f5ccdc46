pub mod Header
pub mod Page
pub mod Groups
pub mod PageChecks
pub mod Marks
pub mod Readings
pub mod Laws
