pub mod TextLemmas
pub mod DerivedEq
pub mod EqualityLemmas
pub mod PreorderLemmas
