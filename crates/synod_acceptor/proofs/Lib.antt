pub mod Slots
pub mod Applied
pub mod Tops
