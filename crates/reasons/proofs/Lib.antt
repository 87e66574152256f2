-- The words that are written, how long a reason can be, that it is right, and small cases.
pub mod Said
pub mod Placed
pub mod Lengths
pub mod Right
pub mod Unique
pub mod Examples
