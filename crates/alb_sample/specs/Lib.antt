pub mod Draws
pub mod Problem
pub mod Choice
pub mod Sample
pub mod Tally
pub mod Values
pub mod Laws
