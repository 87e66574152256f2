-- The definitions on lists that the specifications above share.
pub mod Lists
