pub mod Kept
pub mod Order
pub mod Gather
pub mod Compare
pub mod Indexes
pub mod Broken
