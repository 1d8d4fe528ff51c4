pub mod Explain
pub mod Account
pub mod Entry
