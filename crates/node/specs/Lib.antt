-- What one controller refuses, and its two calls.
pub mod Refusals
pub mod Calls
