pub mod Forms
pub mod Lines
pub mod Ends
pub mod Run
pub mod Program
