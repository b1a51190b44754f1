pub mod Packing
pub mod Seen
pub mod Changes
pub mod Codes
pub mod Numbers
pub mod SectionNames
pub mod Settings
pub mod Stored
