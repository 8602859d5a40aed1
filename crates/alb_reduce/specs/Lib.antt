pub mod Reduction
pub mod Index
pub mod Lanes
pub mod Echelon
pub mod Laws
