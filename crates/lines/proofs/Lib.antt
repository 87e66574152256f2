-- The laws of the lines of a replay.
pub mod Examples
pub mod Lengths
