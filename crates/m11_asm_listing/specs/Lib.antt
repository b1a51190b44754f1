pub mod Columns
pub mod Items
pub mod Laws
pub mod Listing
pub mod Messages
pub mod SymbolTable
