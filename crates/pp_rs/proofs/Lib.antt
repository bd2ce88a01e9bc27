pub mod blocks
pub mod runs
pub mod source
pub mod OutputLemmas
pub mod AskedLemmas
pub mod ItemsTextLemmas
