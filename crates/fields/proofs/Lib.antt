-- Where the pieces of a text end, and reading one piece.
pub mod Finding
pub mod Spelling
pub mod Digits
pub mod Told
pub mod Gathering
