pub mod Item
pub mod Held
pub mod LexerErrors
pub mod Halting
pub mod inner
