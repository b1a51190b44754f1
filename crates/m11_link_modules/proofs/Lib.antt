pub mod GrammarOrder
pub mod Indexing
pub mod KnownAfter
pub mod Refusals
pub mod Taking
pub mod Unread
