pub mod SameShapes
pub mod SameTables
pub mod SamePrints
pub mod UniqueEnd
pub mod UniqueAnswer
