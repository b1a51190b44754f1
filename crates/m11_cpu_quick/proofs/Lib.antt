pub mod JumpsMade
pub mod KindsFound
pub mod OperandsFound
pub mod QuickDone
pub mod ResultsPut
pub mod StepsMade
