pub mod layout
pub mod calls
pub mod build
