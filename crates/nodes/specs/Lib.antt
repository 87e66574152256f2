-- What a set of nodes is, and what each operation on sets means.
pub mod Sets
pub mod Words
