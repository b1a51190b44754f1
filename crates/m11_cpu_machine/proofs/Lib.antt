pub mod AtOnce
pub mod Dialogues
pub mod RegistersPut
pub mod StepsDone
pub mod WordsAsBytes
