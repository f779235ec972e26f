pub mod Judged
pub mod Payloads
