pub mod StepLemmas
pub mod ExistenceLemmas
pub mod RunLemmas
pub mod ReadsBeginLemmas
pub mod EmitsBeginLemmas
pub mod RunsBeginLemmas
pub mod EmitsOnLemmas
