-- What answers a file, and how long that is.
pub mod Settle
pub mod Unique
pub mod Small
pub mod Lengths
pub mod Examples
