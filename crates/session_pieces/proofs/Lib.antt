-- PieceCalls    what makes a call's outcome the promised one
-- Linked        the code of the functions that are called from above, in a world of crates
pub mod PieceCalls
pub mod Linked
