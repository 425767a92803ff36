pub mod Text
pub mod CardHand
pub mod AppHand
pub mod Flush
pub mod Reader
