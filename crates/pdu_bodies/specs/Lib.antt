pub mod Contents
pub mod Forms
pub mod Bodies
pub mod Pieces
pub mod Made
