pub mod Tables
pub mod Asking
