pub mod Entries
pub mod Sides
pub mod Differ
pub mod Stops
pub mod Cross
pub mod Laws
pub mod calls
