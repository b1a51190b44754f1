pub mod Rows
mod ValuesLie
