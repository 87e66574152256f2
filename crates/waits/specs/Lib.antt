-- What a graph of waits is, what its rows mean, when they are refused, and what deadlocked means; and the small mornings as rows.
pub mod Waits
pub mod Deadlocked
pub mod Rows
pub mod Numbers
pub mod Mornings
pub mod Graph
