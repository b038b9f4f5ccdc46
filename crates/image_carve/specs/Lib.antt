pub mod Carved
pub mod Files
pub mod Carving
pub mod Takes
pub mod Laws
