pub mod forgetting
pub mod without
pub mod cooled
pub mod runs
pub mod noting
pub mod synod
