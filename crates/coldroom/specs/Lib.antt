-- What the calls for C hand back, and what they leave in lent memory.
pub mod Results
pub mod Small
pub mod Left
