pub mod Decision
pub mod Nearest
pub mod Columns
pub mod Agree
