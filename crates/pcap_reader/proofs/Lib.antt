pub mod HeaderLaws
pub mod RecordLaws
pub mod Joined
mod Rows
