pub mod Lines
pub mod Finding
pub mod Said
