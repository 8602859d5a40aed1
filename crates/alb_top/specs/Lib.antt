pub mod Script
pub mod Sound
pub mod View
pub mod Outcome
pub mod Does
pub mod Turns
pub mod Laws
