pub mod Versions
pub mod Cut
pub mod Maps
pub mod Noted
pub mod Turns
