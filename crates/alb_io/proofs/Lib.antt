pub mod Fronts
pub mod LineLemmas
pub mod Pieces
pub mod Readings
pub mod Shelves
pub mod Writers
