pub mod Packing
pub mod Filling
pub mod Entries
pub mod Laws
