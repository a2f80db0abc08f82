mod Ordered
mod Passing
mod Syntax
mod Telling
mod Told
