pub mod Lines
pub mod Parsing
pub mod Pending
pub mod Evaluator
