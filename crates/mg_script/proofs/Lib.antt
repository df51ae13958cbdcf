pub mod Steps
pub mod Digits
pub mod Lines
