-- What is found and what is written, that nothing is said of a script and only of one, how long a line can be, and small cases.
pub mod Steps
pub mod Found
pub mod Right
pub mod Lengths
pub mod Unique
pub mod Examples
