pub mod Charts
pub mod Inside
pub mod Spellings
