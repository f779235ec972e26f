pub mod Making
pub mod PieceLaws
