-- The laws of a transcript.
pub mod Told
pub mod Fresh
pub mod Settle
pub mod Lengths
