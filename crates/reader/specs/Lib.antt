-- Places in a line, and what the functions answer.
pub mod Places
pub mod Answers
