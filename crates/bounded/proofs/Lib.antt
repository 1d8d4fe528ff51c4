pub mod AllLaws
pub mod LeastLaws
pub mod QuotientLaws
