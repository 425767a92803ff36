pub mod FrameClass
pub mod Seen
pub mod AddrBytes
