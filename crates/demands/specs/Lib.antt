-- What was demanded and what was asked for later, all controllers together, and the small mornings in one table.
pub mod Turns
pub mod Refusals
pub mod Alone
pub mod Controllers
pub mod Demands
pub mod SameEnd
pub mod Table
