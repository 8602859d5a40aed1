pub mod Answer
pub mod Views
pub mod Laws
