pub mod Text
pub mod Rows
pub mod Put
pub mod Whole
