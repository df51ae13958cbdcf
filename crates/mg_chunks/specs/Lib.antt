pub mod Broken
pub mod Sizes
pub mod Chunks
pub mod Judging
pub mod Buffers
pub mod Closings
pub mod Filters
pub mod Found
