pub mod RequestLemmas
pub mod ShotLemmas
pub mod AnswerLemmas
pub mod StepLemmas
pub mod Going
