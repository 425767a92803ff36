pub mod Behind
pub mod CardTurns
pub mod Views
pub mod Ways
pub mod Running
pub mod Ran
pub mod Laws
