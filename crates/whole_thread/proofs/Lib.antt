mod Following
mod Stepping
mod Wanting
mod Keeping
