-- Where pieces of a text end, and what the functions answer of one.
pub mod Ends
pub mod Answers
