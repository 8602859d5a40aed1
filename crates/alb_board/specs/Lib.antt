pub mod Published
pub mod Views
pub mod Steps
pub mod Turns
pub mod Calls
pub mod Passes
pub mod Shown
pub mod Laws
