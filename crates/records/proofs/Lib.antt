-- The laws of records and messages.
pub mod Among
pub mod Fits
pub mod Unique
pub mod Higher
pub mod Marks
pub mod Open
