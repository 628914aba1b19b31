pub mod ResponseLaws
pub mod WriteLaws
pub mod SendLaws
pub mod BackLaws
pub mod ReadBack
pub mod SentBack
