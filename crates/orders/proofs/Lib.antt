pub mod PairLaws
pub mod BatchLaws
