-- A message: its id, what was taken, and the chain of decrees on it.
pub mod Ids
pub mod Submission
pub mod Decree
pub mod Receipts
pub mod Neighbours
pub mod Chain
