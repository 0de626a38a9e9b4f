pub mod Actions
pub mod Commands
pub mod Lines
pub mod Reports
