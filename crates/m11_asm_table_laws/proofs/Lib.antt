mod Knowing
mod LabelsRecorded
mod Selecting
mod Values
mod ActionsRecorded
mod DefinitionsSaid
mod LinesRecorded
