pub mod Reply
pub mod Sound
pub mod Forms
pub mod Meter
pub mod Explain
