--   Linked        the code of the functions that are called from above, in a world of crates
pub mod Linked
