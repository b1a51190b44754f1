pub mod BlocksRead
pub mod Carried
pub mod OneReading
pub mod Started
