-- What a text of numbers says and where it stops, what a step is, and what a script is.
pub mod Numbers
pub mod Stops
pub mod Steps
pub mod Script
