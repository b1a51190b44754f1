pub mod NotedParts
pub mod OneOrder
pub mod ReadOn
pub mod Shown
pub mod StoppedIn
pub mod Texts
pub mod NamesAdded
