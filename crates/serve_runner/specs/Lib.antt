pub mod Arguments
pub mod Beginnings
