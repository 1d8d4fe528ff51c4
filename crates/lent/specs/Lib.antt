pub mod Reply
pub mod Refused
