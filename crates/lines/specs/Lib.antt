-- The lines that the programs answer with.
pub mod Lines
