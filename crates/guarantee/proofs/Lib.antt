pub mod AfterLaws
pub mod ArrivedLaws
pub mod GuaranteeLaws
pub mod RespondsLaws
pub mod TiesLaws
pub mod UniformLaws
