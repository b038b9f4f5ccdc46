pub mod Ready
pub mod Heard
pub mod Work
pub mod Over
