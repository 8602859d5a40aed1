pub mod Laws
pub mod Matches
pub mod Satisfied
pub mod Problem
pub mod Builder
