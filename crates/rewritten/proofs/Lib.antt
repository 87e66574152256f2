-- What is written back, that it keeps the graph, how long it is, and small cases.
pub mod Settle
pub mod Kept
pub mod Lengths
pub mod Unique
pub mod Examples
