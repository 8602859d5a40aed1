pub mod LaneLemmas
pub mod LoopLemmas
pub mod TableLemmas
pub mod ZeroLemmas
