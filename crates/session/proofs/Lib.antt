-- LiveFacts     what the work on a session asks of it, from the test that it is live
-- View          the struct says no more than the promises do
-- Linked        the code of the functions that are called from above, in a world of crates
pub mod LiveFacts
pub mod View
pub mod Linked
