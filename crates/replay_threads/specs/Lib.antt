pub mod Lanes
pub mod Seated
pub mod Cards
pub mod Carried
pub mod Made
pub mod Reader
pub mod Laws
pub mod Played
