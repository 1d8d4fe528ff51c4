pub mod Statement
pub mod Theorems
