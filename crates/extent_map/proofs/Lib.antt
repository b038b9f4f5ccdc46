pub mod Used
pub mod Masks
pub mod Uses
pub mod Readers
pub mod Stages
pub mod SoundDescriptors
pub mod Writing
