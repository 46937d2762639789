pub mod Laws
pub mod FormatLaws
pub mod ReadBack
pub mod WholeLaws
