pub mod Queue
pub mod Gaps
pub mod Pieces
pub mod Laws
pub mod Values
pub mod Entering
pub mod Parts
