mod InOrder
mod Joining
