-- The laws of a step.
pub mod Said
pub mod Answered
pub mod Reacts
pub mod Fits
pub mod Held
pub mod Keeps
pub mod Local
pub mod Taken
pub mod AtOnce
pub mod Letters
pub mod Unique
pub mod Among
pub mod Open
