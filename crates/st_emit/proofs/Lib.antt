pub mod ChartCode
pub mod Commands
pub mod Invoking
