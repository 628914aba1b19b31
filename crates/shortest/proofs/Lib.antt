pub mod InverseLaws
pub mod LeastLaws
pub mod RefusalLaws
pub mod ShownLaws
pub mod Theorems
pub mod WrittenLaws
pub mod AgainLaws
