-- The definitions give the draft's test vectors, and the two MACs of no data.
--   Computing   updates in a form that computes fast
--   Phases      start, absorbing and finalization in that form
--   Vectors     the vectors hold
--   EmptyMac    the MAC of no data, 01's and the draft's
--   MacsDiffer  two inputs whose MACs differ
pub mod Computing
pub mod Phases
pub mod Vectors
pub mod EmptyMac
pub mod MacsDiffer
