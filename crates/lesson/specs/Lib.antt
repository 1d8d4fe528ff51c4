pub mod Item
pub mod Lesson
pub mod Statement
pub mod Read
pub mod Put
pub mod Step
pub mod Entry
pub mod Theorems
