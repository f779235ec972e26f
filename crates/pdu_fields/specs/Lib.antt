pub mod Text
pub mod Grammar
pub mod Tlv
pub mod Addresses
pub mod Handling
