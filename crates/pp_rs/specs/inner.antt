-- Definitions that only say how far a function's body has got: none of them has to be believed.
pub mod AllTexts
pub mod Answering
pub mod Fit
pub mod GivingOn
pub mod ItemValues
pub mod ItemsText
pub mod NextWord
pub mod OutputLines
pub mod SourceTurns
pub mod Stands
pub mod StandsPast
