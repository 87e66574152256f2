-- Where a mark and a line stand, the walks along a field and a line, and that what is said of them agrees with how they are read.
pub mod Standing
pub mod Judging
pub mod Walking
pub mod Agreeing
pub mod Headers
pub mod Rows
