pub mod Reset
pub mod Closing
pub mod Theorems
