pub mod Decimal
pub mod Buffer
pub mod Joined
pub mod Written
pub mod Number
pub mod RoundTrip
