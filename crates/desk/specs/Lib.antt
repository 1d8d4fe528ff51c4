pub mod Opinions
pub mod Statement
pub mod Theorems
pub mod Short
pub mod Step
pub mod Entry
