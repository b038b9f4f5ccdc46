pub mod WholeRows
pub mod Causes
