-- A file of waits as it is written back.
pub mod Rewritten
