-- The laws of records, messages, steps and answers as numbers.
pub mod Places
pub mod Letters
pub mod Back
pub mod Open
