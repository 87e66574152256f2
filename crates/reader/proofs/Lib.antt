-- Reading fields, lines and files.
pub mod Taking
pub mod Rows
pub mod Storing
