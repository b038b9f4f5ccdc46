pub mod Inodes
pub mod Writing
pub mod InodeChecks
pub mod Kept
pub mod Walk
pub mod Laws
