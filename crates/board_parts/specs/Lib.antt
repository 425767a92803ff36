pub mod Opened
pub mod Counts
pub mod Free
pub mod Rings
pub mod Area
