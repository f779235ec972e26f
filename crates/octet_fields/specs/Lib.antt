pub mod Texts
pub mod Kinds
pub mod Reading
pub mod Laws
