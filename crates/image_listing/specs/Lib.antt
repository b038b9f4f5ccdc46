pub mod Listing
pub mod Calls
pub mod Versions
pub mod Tallies
