mod Bounded
pub mod Counters
mod Equations
pub mod FilledSizes
mod FirmAssignments
mod FirmChanges
mod FirmLabels
mod FirmLines
pub mod History
pub mod NamesByMaps
mod Forms
mod LabelLocations
mod LinesFill
pub mod LastDefinitions
mod PieceSizes
mod PiecesInOrder
mod SameLines
mod SectionEntries
pub mod Settling
mod Sizes
pub mod TextParts
mod FirmMeanings
