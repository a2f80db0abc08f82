pub mod DeclaredNames
pub mod UnitCharts
pub mod Units
