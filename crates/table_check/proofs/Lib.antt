pub mod ValueStages
pub mod Progress
pub mod Asked
pub mod RecordSteps
pub mod RecordMarks
mod LiveSteps
mod RowSteps
mod RowMarks
pub mod WholeRows
mod LeafPass
mod TreeSteps
mod UnreachedSteps
mod WholeSteps
pub mod OneAnswer
mod Validity
mod NewPages
mod TreesLaw
pub mod ValuesLaw
mod ValidLaw
mod Checks
mod AuditDecisions
mod AuditAnswer
pub mod PageDecisions
mod TreeAnswer
pub mod ValueDecisions
mod ValueAnswer
