pub mod Raw
pub mod TableAlgebra
pub mod Walk
pub mod Products
pub mod Verdict
pub mod SubTable
pub mod Laws
