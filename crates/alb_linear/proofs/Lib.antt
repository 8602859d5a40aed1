pub mod OrderLemmas
pub mod IdentityLemmas
pub mod LinearLemmas
pub mod LawLemmas
pub mod RunLemmas
