pub mod Standing
pub mod Unused
pub mod Leaf
pub mod Known
pub mod Laws
