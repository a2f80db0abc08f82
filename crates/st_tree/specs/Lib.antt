pub mod Kinds
pub mod Literals
pub mod Name
pub mod Trees
pub mod formers
