pub mod Latest
pub mod Opening
pub mod Placing
pub mod Seats
pub mod OneLoan
