pub mod Stored
pub mod Holding
pub mod Contents
pub mod Inserting
pub mod Answering
pub mod InMemory
pub mod Sending
pub mod Rewriting
