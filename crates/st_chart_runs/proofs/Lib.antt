pub mod Asked
pub mod FlagCells
pub mod Fronts
pub mod RoomCells
pub mod StateCells
pub mod StepCells
pub mod Stretched
pub mod Stretches
