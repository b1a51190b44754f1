mod Defining
mod MoreLines
mod Noted
mod WholeEnds
mod WholeSources
mod FirstFaults
mod Numbers
mod EachPass
pub mod LiveWritten
mod MessagesCounted
mod ObjectWritten
mod OneOutcome
mod OneRewriting
mod OnePass
mod OneText
mod OutputLines
mod OutputsAlike
mod RunsDecided
mod RunsRefused
mod Shaped
mod SourcesRead
mod WholeOutcomes
pub mod PassesComputed
