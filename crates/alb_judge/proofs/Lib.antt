pub mod WriteLemmas
pub mod EvidenceLemmas
pub mod VerdictLemmas
