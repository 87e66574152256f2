-- What a file of waits is answered with.
pub mod Report
