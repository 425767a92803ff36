pub mod Tokens
pub mod Sending
pub mod Serving
