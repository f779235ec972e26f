pub mod Keys
pub mod Going
pub mod Joining
pub mod Example
pub mod Texts
pub mod ThreeNodes
pub mod Opening
pub mod Left
