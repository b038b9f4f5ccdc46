pub mod WordForms
pub mod OneForm
pub mod Serving
