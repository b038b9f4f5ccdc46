pub mod Good
pub mod Texts
pub mod PickedParts
pub mod KeyOrders
pub mod PickedEntries
pub mod Weights
pub mod PlanSteps
pub mod LineRows
