pub mod CommandCodes
pub mod StatusCodes
pub mod StateCodes
pub mod TagCodes
