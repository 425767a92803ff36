pub mod Positions
pub mod Least
pub mod Holding
pub mod Parts
pub mod Judging
mod Lookups
pub mod Sound
mod Rest
pub mod Gapping
pub mod Taking
pub mod GapByGap
pub mod Entering
mod OwnFrame
pub mod InParts
