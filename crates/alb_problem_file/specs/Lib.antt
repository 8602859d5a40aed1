pub mod Codes
pub mod File
pub mod Read
pub mod Steps
