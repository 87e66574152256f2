-- What a file of waits is: how it is cut, what a field, a row and the file say, what is written, and that both undo each other.
pub mod Cut
pub mod Fields
pub mod Files
pub mod Written
pub mod Undone
pub mod Grammar
