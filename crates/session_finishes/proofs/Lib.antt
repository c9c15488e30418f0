-- The laws of finishes and aborts: what their calls ask, and what makes their outcomes the promised ones.
--   Linked        the code of the functions that are called from above, in a world of crates
pub mod SessionTags
pub mod FinishCalls
pub mod Linked
