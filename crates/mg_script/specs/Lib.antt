pub mod Plan
pub mod Reads
pub mod Places
pub mod Parts
pub mod Values
pub mod Script
pub mod Text
