pub mod Copying
pub mod Counting
