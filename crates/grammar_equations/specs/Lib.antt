pub mod Rules
pub mod Derivations
pub mod Instances
pub mod Values
pub mod GrammarEquations
pub mod Paths
pub mod Exactness
