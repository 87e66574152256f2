-- The laws that every crate cites: branches and matches, Boolean tests, lists, runs of numbers stored in a list.
pub mod Cases
pub mod Tests
pub mod Walks
pub mod Any
pub mod Ascending
pub mod Stores
pub mod Once
pub mod Each
pub mod Those
