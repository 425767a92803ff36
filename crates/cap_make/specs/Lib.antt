pub mod GeneratedCapture
pub mod Carried
