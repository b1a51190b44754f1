mod Counted
mod Falling
mod Keeping
mod KeptActing
mod Noting
mod Sources
mod Taken
