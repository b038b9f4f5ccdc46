-- Words that stand between the calls of the crate.
pub mod Values
pub mod Rows
pub mod Texts
pub mod Words
pub mod Bytes
pub mod Moments
pub mod Lanes
