-- How one node behaves, and what it answers.
pub mod Answers
pub mod Step
pub mod Letters
pub mod Views
pub mod Sent
