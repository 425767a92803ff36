pub mod Weighing
pub mod Following
mod SignedDistance
pub mod InOrder
mod Numbers
mod Rows
pub mod LeastMissing
pub mod Mapped
pub mod ValuesFrom
pub mod Booleans
pub mod Lists
pub mod Pushed
