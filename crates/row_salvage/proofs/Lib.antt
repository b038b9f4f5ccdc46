mod Missed
pub mod Followed
mod LossLines
mod PartVerdict
mod AlongChain
mod ChainVerdict
mod ChainAnswers
mod PartialLine
mod ColumnVerdict
mod FirstColumns
mod WholeLine
