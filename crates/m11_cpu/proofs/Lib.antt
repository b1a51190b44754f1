pub mod BlocksRead
pub mod BytesPut
pub mod DataPut
pub mod RunsDone
pub mod SimulationDone
pub mod TapePut
