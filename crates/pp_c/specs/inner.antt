-- Definitions that only say how far a function's body has got: none of them has to be believed.
pub mod Kinds
pub mod Settings
pub mod Taking
pub mod Making
pub mod Lexes
pub mod Refusing
pub mod Reached
pub mod Batches
