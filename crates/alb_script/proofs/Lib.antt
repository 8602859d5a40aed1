pub mod Memory
pub mod WordLemmas
pub mod KnownLemmas
pub mod ToldLemmas
