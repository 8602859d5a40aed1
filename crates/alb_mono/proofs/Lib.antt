pub mod Both
pub mod Degrees
pub mod Leaves
pub mod Order
pub mod TypeLemmas
pub mod ListingLemmas
pub mod TypesListing
pub mod LetterLemmas
