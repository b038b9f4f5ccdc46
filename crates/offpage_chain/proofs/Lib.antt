pub mod References
mod Rests
pub mod Alongs
pub mod Feeds
pub mod Stages
pub mod Places
pub mod Links
pub mod Whole
pub mod Writes
mod PartPages
mod ValueChains
mod HeldParts
