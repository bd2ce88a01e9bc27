pub mod GatherLemmas
pub mod CollectLemmas
pub mod SearchLeadsLemmas
pub mod CallsLemmas
pub mod LevelLemmas
