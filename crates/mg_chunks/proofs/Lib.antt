mod Judged
mod Ordered
pub mod Buffering
