pub mod AnswerLemmas
pub mod StopLemmas
