pub mod Answering
pub mod Belonging
pub mod Lacking
pub mod TakingBack
pub mod Telling
