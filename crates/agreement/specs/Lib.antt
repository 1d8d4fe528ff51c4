pub mod Statement
pub mod Words
pub mod Jobs
pub mod Fitting
pub mod Theorems
