mod BlockLaws
mod BlockSteps
mod Heads
mod WholeBlocks
mod Passing
mod Forms
pub mod Goings
pub mod ClassicGoes
pub mod BlocksGo
