pub mod Codes
pub mod Refusals
pub mod Run
pub mod Scan
pub mod History
pub mod Theorems
