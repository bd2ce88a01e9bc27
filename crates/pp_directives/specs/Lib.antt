pub mod WordTokens
pub mod inner
