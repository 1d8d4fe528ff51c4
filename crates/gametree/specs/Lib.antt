pub mod Search
pub mod Bounds
pub mod Code
pub mod Entry
pub mod Statement
pub mod Decides
pub mod Theorems
