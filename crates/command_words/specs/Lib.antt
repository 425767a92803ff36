pub mod Numbers
pub mod Assigned
pub mod Asking
pub mod Options
pub mod Areas
pub mod Words
pub mod Laws
