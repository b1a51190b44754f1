mod Listing
mod NamedOperations
mod Naming
mod OneRow
mod Sizes
pub mod Joining
pub mod FieldWords
