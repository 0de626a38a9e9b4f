pub mod Each
pub mod Sweeps
pub mod Iterating
pub mod RowsAfter
pub mod Calls
mod Counting
pub mod Outcomes
