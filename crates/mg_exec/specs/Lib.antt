pub mod ExecView
pub mod Attempts
