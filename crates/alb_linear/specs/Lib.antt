pub mod Identity
pub mod Laws
pub mod Runs
