pub mod Equations
pub mod Reach
pub mod Rounds
pub mod Theory
pub mod Worked
