pub mod Fitting
pub mod Streams
pub mod Fielding
pub mod Copying
pub mod Levels
pub mod Hints
