pub mod RootOrder
pub mod Puts
pub mod Build
pub mod Outcome
pub mod Laws
