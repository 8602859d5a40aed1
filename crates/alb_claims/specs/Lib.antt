pub mod Claimed
pub mod Passes
