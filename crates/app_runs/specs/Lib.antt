pub mod Moods
pub mod Plain
pub mod Scene
