pub mod Numbers
pub mod DecimalLengths
pub mod TextOrder
pub mod FieldLists
pub mod KeyOrder
pub mod Bytes
pub mod IntegerValues
pub mod MomentValues
pub mod Utf8Texts
pub mod Utf8Steps
mod Utf8Fronts
pub mod TextValues
pub mod Groups
pub mod DecimalValues
pub mod Spellings
pub mod ValueOrder
pub mod WordOrder
