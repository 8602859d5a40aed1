pub mod Work
pub mod Stops
pub mod Ready
