pub mod Kinds
pub mod Marks
pub mod Same
pub mod States
pub mod Submissions
pub mod Content
pub mod Bytes
pub mod Octets
