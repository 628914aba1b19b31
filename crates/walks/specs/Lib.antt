pub mod Walk
pub mod Contrast
pub mod Merge
pub mod Turn
pub mod Compare
pub mod Theorems
