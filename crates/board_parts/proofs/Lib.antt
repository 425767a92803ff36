pub mod Moving
pub mod NewApps
pub mod TakingBack
pub mod FreeLists
pub mod Reserves
