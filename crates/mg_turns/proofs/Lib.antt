pub mod Tallies
pub mod OwnTickets
