pub mod Pages
pub mod Shown
pub mod Written
