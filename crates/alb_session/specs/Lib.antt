pub mod Session
pub mod Served
pub mod View
pub mod Turns
