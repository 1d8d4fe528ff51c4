pub mod ForceLaws
pub mod HoldLaws
pub mod TheoremsLaws
pub mod TickLaws
