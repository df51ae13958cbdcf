pub mod Cursors
pub mod Failures
pub mod Resuming
pub mod Token
