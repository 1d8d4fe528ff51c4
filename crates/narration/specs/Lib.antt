pub mod Narration
pub mod Telling
pub mod Moments
pub mod Statement
pub mod Theorems
