pub mod message
pub mod synod
pub mod node
pub mod cluster
