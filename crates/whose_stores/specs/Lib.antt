pub mod Marks
pub mod Rules
pub mod Judging
