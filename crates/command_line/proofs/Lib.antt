pub mod OneAnswer
pub mod TextPieces
pub mod SchemaReading
pub mod SchemaEnds
pub mod WordLists
