mod Payload
mod Records
mod Classed
mod Flowing
