pub mod LinkGlobals
pub mod LoadMap
pub mod Noted
pub mod Reading
pub mod Run
pub mod Stopping
pub mod NameFiles
