pub mod Building
pub mod Steps
