pub mod Part
pub mod Next
pub mod Laws
