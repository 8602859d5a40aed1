pub mod TreeCode
pub mod Listing
pub mod Tree
pub mod Laws
