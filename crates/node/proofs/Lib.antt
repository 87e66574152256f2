-- The laws of one controller.
pub mod Refused
pub mod Last
pub mod Whole
