pub mod LineLemmas
pub mod BufferLemmas
pub mod FindingLemmas
pub mod WordLemmas
pub mod SaidLemmas
