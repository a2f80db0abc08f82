pub mod ChangeTexts
pub mod Commands
pub mod Requests
pub mod ScanWords
pub mod SourceTexts
