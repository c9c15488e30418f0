-- What ties the demands to the code.
--   Archive        the code of the exported functions, and of all that they call
--   CallContracts  each exported function, and the predicate that every call of it meets
--   CodeTrace      calls on the caller's own session struct, from a start on
pub mod Archive
pub mod CallContracts
pub mod CodeTrace
