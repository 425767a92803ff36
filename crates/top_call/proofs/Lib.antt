mod Gathering
mod Numbered
mod Rows
pub mod Found
pub mod Flushed
pub mod Recording
pub mod Behind
pub mod ToldLines
pub mod Statuses
pub mod Alone
