pub mod Moves
pub mod SavedRows
pub mod Known
pub mod Pages
pub mod Alike
pub mod Held
pub mod Carved
