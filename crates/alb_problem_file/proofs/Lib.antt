pub mod SaidLemmas
pub mod FileLemmas
pub mod ReadLemmas
