pub mod Carried
pub mod PlacesAdded
