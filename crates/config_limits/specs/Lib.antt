pub mod Keys
pub mod Limited
pub mod Reading
