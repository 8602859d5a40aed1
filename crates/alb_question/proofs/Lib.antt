pub mod ProblemRules
pub mod FindingLemmas
pub mod Totality
pub mod Alike
pub mod Accepted
