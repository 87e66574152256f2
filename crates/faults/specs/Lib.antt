-- What is wrong with a field and with a line of a file of waits.
pub mod Flaws
pub mod Faults
