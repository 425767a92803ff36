pub mod Blocks
pub mod Records
pub mod Capture
pub mod Steps
pub mod Forms
