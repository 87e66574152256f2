-- The laws of sets, each shown once for every width.
pub mod Bit
pub mod Operations
pub mod Inside
pub mod Gather
pub mod Members
pub mod Size
pub mod Walk
pub mod Words
pub mod First
pub mod Open
