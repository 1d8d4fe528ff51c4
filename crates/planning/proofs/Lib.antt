pub mod TheoremsLaws
