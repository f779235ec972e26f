pub mod Shelved
pub mod Parted
pub mod Places
pub mod Lends
