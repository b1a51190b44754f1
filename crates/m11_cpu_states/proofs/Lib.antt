pub mod NoState
pub mod OneMachine
pub mod SlicesMade
pub mod StateBytes
