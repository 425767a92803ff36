pub mod Powers
pub mod Areas
pub mod Words
pub mod Making
pub mod Bytes
