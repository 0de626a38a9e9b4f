pub mod Faults
pub mod Rows
pub mod Calls
pub mod Steps
pub mod Runs
pub mod Laws
