pub mod Lines
pub mod Places
pub mod Said
pub mod Symbols
pub mod Tables
