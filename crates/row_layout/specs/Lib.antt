pub mod StoredRow
pub mod Fitting
pub mod RowKeys
pub mod SecondaryEntries
pub mod HoldsValues
pub mod LeafEntries
pub mod EntryLaws
pub mod Laws
