pub mod Refusals
pub mod Frames
pub mod State
pub mod Calls
pub mod Positions
pub mod Streams
pub mod Batch
pub mod Theorems
