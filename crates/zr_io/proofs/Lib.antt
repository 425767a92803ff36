pub mod Moved
mod Memory
mod Kept
mod Sending
