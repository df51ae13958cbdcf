pub mod Follower
pub mod OneCall
