-- The laws of a bench.
pub mod Sound
pub mod Ways
pub mod Keeping
pub mod Codes
pub mod Turns
pub mod Frame
pub mod Unique
pub mod Made
pub mod Open
