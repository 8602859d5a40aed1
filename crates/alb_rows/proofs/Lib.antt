pub mod RowLemmas
pub mod SearchLemmas
pub mod SpanLemmas
