pub mod Verdict
pub mod Views
pub mod Laws
