pub mod CommandLemmas
pub mod EndLemmas
pub mod MomentLemmas
pub mod ReadLemmas
pub mod ScanLemmas
pub mod SourceLemmas
pub mod TextLemmas
