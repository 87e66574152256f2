-- The theory of reduction over any graph of waits, and what the calls promise, from what their callees said.
pub mod Sweeps
pub mod Reduction
pub mod Paths
pub mod Leads
pub mod Passing
pub mod Cases
pub mod Writing
pub mod Refused
pub mod Judging
pub mod Answers
pub mod Offered
pub mod Unique
pub mod Open
