pub mod KindLaws
pub mod OpinionLaws
pub mod OverloadLaws
pub mod TheoremsLaws
