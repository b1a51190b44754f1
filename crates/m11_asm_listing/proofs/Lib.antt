pub mod PrintedLines
pub mod Widths
