-- What the proofs of several functions use, and what is shown of all results.
pub mod Small
pub mod Read
pub mod Unique
mod Examples
