pub mod ResetLaws
pub mod Theorems
