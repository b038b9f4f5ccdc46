pub mod Missed
pub mod Calls
