pub mod Buffer
pub mod Judged
pub mod Reading
pub mod Coming
pub mod Holding
pub mod Places
pub mod Unfit
pub mod Fronts
