-- How many bytes were moved, at most.
pub mod Streams
