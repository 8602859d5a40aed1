pub mod EndLemmas
pub mod BuildingLemmas
