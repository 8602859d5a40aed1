pub mod Instances
pub mod Offers
pub mod Meaning
pub mod Opened
pub mod Asked
pub mod View
pub mod Laws
