pub mod Index
pub mod Parted
pub mod Line
pub mod Code
pub mod Lines
pub mod Text
pub mod Input
