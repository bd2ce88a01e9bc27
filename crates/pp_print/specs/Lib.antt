pub mod Words
pub mod Ends
pub mod SourceRuns
pub mod Runs
pub mod OutputLaws
pub mod RunLaws
pub mod inner
