pub mod Totals
pub mod Alike
pub mod Canonical
pub mod Vectors
