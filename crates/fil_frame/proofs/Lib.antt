pub mod CrcLemmas
pub mod Sealed
pub mod Linear
pub mod States
pub mod Cancels
pub mod Shortened
pub mod TableLemmas
pub mod WordLemmas
