pub mod Question
pub mod Views
pub mod Laws
