mod Beginnings
pub mod LaneTurns
pub mod Leavings
mod Pourings
pub mod SideBySide
mod Starts
pub mod Reversed
mod Rings
pub mod CardTurns
pub mod ReaderTurns
pub mod Joined
pub mod Carrying
mod AllOver
mod Told
