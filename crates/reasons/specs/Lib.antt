-- Why a file of waits is refused, in plain words.
pub mod Reasons
