pub mod Moved
pub mod Memory
pub mod Reserved
