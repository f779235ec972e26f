pub mod Frames
pub mod Courses
