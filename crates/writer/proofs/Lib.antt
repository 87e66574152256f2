-- The text of a file as the code writes it, how long it can be, what is answered, and small cases.
pub mod Parts
pub mod Lengths
pub mod Settle
pub mod Unique
pub mod Examples
