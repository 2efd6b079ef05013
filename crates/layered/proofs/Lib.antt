mod Growth
mod Steps
mod Gains
mod Rests
