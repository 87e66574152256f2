-- The laws of the graph of waits.
pub mod Cases
pub mod Table
pub mod Small
pub mod Next
pub mod Left
pub mod Condition
pub mod Lawful
pub mod In
pub mod Flat
pub mod Meets
pub mod Open
