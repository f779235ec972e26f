pub mod Orders
pub mod Sql
pub mod Adopted
