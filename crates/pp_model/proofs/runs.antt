pub mod RunLemmas
pub mod RunStatesLemmas
pub mod LiveRunLemmas
pub mod EndLemmas
pub mod RunEndLemmas
pub mod QuietLemmas
pub mod RunChainLemmas
