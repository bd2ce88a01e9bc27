-- Definitions that only say how far a function's body has got: none of them has to be believed.
pub mod Input
pub mod Printing
pub mod Defining
