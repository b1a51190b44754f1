pub mod Findings
pub mod Lines
pub mod Relocation
