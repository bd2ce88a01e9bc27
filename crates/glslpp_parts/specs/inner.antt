pub mod Added
pub mod Adding
pub mod Cutting
pub mod Taking
