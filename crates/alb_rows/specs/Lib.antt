pub mod Row
pub mod Merge
pub mod Span
pub mod Laws
