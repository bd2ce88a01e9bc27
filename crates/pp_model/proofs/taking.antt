pub mod TakingLemmas
pub mod FoundLemmas
pub mod EmittingLemmas
pub mod NumberingLemmas
pub mod OpenNamesLemmas
pub mod OpenOnceLemmas
pub mod ApartMarksLemmas
pub mod NoLineNameLemmas
