mod AfterBrackets
mod BeforeTerms
mod Cases
mod Exits
mod Folds
mod FurtherFlags
mod Groups
mod LastOperators
mod SingleTerms
pub mod Meanings
mod OpenBrackets
mod Parts
mod PlainPrefixes
mod ReadTokens
mod Tokens
pub mod Beginning
mod Empties
pub mod Joining
