pub mod Views
pub mod Answers
pub mod Short
pub mod Derivation
pub mod Laws
pub mod Tally
pub mod Numbered
