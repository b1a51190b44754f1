pub mod Beside
pub mod Forms
pub mod KindTables
pub mod Kinds
pub mod Near
pub mod Quick
