-- The bench: its state, when it is refused, one step, and a list of steps.
pub mod Bench
pub mod Strange
pub mod Steps
pub mod Runs
pub mod Replies
pub mod AtWork
