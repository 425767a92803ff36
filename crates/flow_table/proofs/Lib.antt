pub mod Flags
pub mod Laws
pub mod FlowLaws
pub mod Closes
mod Newest
mod SeenAt
mod Placing
mod Listing
mod Entries
mod Steering
mod Distance
