pub mod Known
pub mod Logs
pub mod Counted
pub mod Onward
pub mod Moments
pub mod Waits
pub mod Outs
pub mod Places
