pub mod Modular
pub mod Laws
