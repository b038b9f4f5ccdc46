pub mod StoredRows
pub mod BadLine
pub mod ReadRows
pub mod calls
