pub mod Inboxes
pub mod Lines
pub mod Names
pub mod StaffedPlaces
