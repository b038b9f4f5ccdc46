pub mod Zeros
pub mod Checks
pub mod Maps
pub mod Verdicts
