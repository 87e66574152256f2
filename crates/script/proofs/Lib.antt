-- Reading numbers, from what each byte does; where that stops; steps in a list; a script's numbers, and its bytes; what the promises settle.
pub mod Reading
pub mod Stopping
pub mod Counts
pub mod Triples
pub mod Shapes
pub mod Told
pub mod Parsing
pub mod Parts
pub mod Settled
pub mod Written
pub mod Examples
