pub mod Gives
pub mod Grammar
pub mod Setting
pub mod Reading
pub mod Lettering
pub mod Laws
