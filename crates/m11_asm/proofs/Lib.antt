mod Needed
mod Numbering
mod EntryNames
pub mod LinesListed
pub mod ListedLines
mod Counting
mod FactsFound
mod Finishing
mod FirstLines
mod FirstTaking
mod Joined
mod LinesRead
mod LinesTaken
pub mod LinesWritten
mod Naming
mod Noting
mod Putting
mod SameFacts
mod SecondLine
mod SecondLines
mod SecondTaking
mod Taking
