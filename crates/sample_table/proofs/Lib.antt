pub mod Table
pub mod Letters
pub mod MadeRows
pub mod MakingSteps
pub mod Lines
pub mod Texts
pub mod Fits
pub mod Files
