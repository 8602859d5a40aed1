pub mod SameLine
pub mod Tidy
pub mod Cites
pub mod Numbers
pub mod Needed
pub mod Keeps
