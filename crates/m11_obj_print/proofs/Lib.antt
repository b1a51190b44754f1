mod NamesShown
pub mod LineEnds
pub mod Trimming
