pub mod Characters
pub mod Showing
pub mod Sources
pub mod Wholes
