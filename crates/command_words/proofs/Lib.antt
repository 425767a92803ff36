pub mod Digits
pub mod Lookups
pub mod Looks
pub mod Matching
pub mod Walking
pub mod Defaults
pub mod Asked
pub mod Adding
pub mod Ranges
pub mod Ways
pub mod AreaRanges
pub mod AreaParts
pub mod Porting
pub mod Told
pub mod Answering
mod Rows
