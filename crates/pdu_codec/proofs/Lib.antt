pub mod PduLaws
pub mod BodyFaults
pub mod FormLaws
pub mod PduSpelling
