-- What keeps bytes from being a script, and the words for it.
pub mod Snags
