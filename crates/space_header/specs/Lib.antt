pub mod Header
pub mod Writing
pub mod Linked
pub mod Laws
