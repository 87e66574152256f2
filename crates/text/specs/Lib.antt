-- Text as bytes, numbers in decimal, digits that are read, and lent bytes that text is written into.
pub mod Words
pub mod Digits
pub mod Text
