pub mod Sources
pub mod Versions
pub mod Minified
pub mod Variants
pub mod Pages
pub mod Includes
