pub mod Planning
pub mod Statement
pub mod Put
pub mod Theorems
