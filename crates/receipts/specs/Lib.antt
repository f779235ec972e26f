pub mod Texts
pub mod Receipts
pub mod Told
