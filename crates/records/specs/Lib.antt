-- What a record and a message say, and when they can't be.
pub mod Causes
pub mod Rounds
pub mod Messages
pub mod Records
