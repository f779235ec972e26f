pub mod Comings
pub mod Asking
pub mod Attempts
pub mod Lasting
pub mod Answering
pub mod Stepping
