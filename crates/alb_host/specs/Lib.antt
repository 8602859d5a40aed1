pub mod Words
pub mod Report
pub mod Steps
pub mod Runs
