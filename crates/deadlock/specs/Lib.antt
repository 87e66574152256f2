-- What the calls answer, through the definitions of demand 2; and the sets that the inner functions compute.
pub mod Refusals
pub mod Offer
pub mod Claims
pub mod Evidence
pub mod Ring
pub mod Waiters
pub mod Sweeps
