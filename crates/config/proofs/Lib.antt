pub mod Lists
pub mod Texts
pub mod Checked
pub mod Sound
pub mod Built
pub mod Blank
pub mod Apart
