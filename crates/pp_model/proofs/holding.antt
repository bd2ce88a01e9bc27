pub mod HoldingLemmas
pub mod KeptTokensLemmas
pub mod LineHoldsLemmas
pub mod SourceHoldsLemmas
