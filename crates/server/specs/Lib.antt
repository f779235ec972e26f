pub mod Handing
pub use Rattle.node_workers.specs.Actions
pub use Rattle.node_workers.specs.Defaults
pub use Rattle.node_workers.specs.Loadings
pub use Rattle.node_workers.specs.Numbers
pub use Rattle.node_workers.specs.Openings
