-- The laws of written text, of decimal numbers and of digits that are read.
pub mod Writing
pub mod Decimal
pub mod Reading
pub mod Examples
