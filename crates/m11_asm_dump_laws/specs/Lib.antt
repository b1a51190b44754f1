pub mod Texts
pub mod Operands
pub mod Knowledge
pub mod Lines
pub mod Items
