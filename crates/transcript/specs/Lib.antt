-- What a script is answered with.
pub mod Transcript
