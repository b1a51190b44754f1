pub mod Cuts
pub mod Gaves
pub mod MoreBytes
pub mod OpenLines
pub mod Seeking
pub mod SourceSteps
pub mod Runs
pub mod PlainFronts
pub mod ShortLines
pub mod TableOfClasses
pub mod PlainTexts
pub mod Folding
mod KeptTexts
pub mod NamedTokens
mod NestedBrackets
pub mod NextPieces
pub mod OnlyCut
pub mod OrderedTokens
pub mod Packed
mod Spelling
mod WrittenExpressions
mod TableOfCodes
