pub mod Header
pub mod Reading
pub mod Keys
pub mod Whole
pub mod Writing
pub mod Laws
