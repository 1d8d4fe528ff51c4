pub mod AcceptedLaws
pub mod EntryLaws
pub mod LineLaws
pub mod PlayLaws
pub mod StandsLaws
pub mod TheoremsLaws
