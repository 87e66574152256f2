-- What the writer of a file answers, and how it leaves the lent bytes.
pub mod Answer
