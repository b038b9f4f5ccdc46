pub mod Stops
pub mod Lines
pub mod Stored
pub mod Arena
pub mod RowFields
pub mod NextRow
