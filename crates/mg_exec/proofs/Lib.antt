pub mod Replies
pub mod Attempting
pub mod Execs
