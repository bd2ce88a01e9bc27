-- Definitions that only say how far a body has got: none of them has to be believed.
pub mod Changes
pub mod Seen
pub mod SeenList
pub mod Halting
pub mod ReaderState
pub mod Acting
pub mod SeenSource
pub mod Faulting
