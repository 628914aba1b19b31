pub mod Lists
pub mod Ascending
pub mod Numbers
pub mod Parts
pub mod Gaps
pub mod Ports
