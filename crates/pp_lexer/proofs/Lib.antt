pub mod characters
pub mod items
pub mod numbers
pub mod spelling
pub mod values
pub mod words
