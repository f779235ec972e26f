pub mod Puts
pub mod Asking
pub mod Heeding
