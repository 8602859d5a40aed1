pub mod Tuples
pub mod Ranges
pub mod Products
pub mod Columns
pub mod Sums
pub mod Laws
