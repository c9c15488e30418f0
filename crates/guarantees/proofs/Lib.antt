-- The demands at AEGIS-128L, of the code.
--   Wired       the archive has the code of each exported function
--   Contracts   the contract of each exported function is the predicate that the demands speak of
--   Demands     the demands at AEGIS-128L; a trace of the code is one that they speak of
--   Witnesses   each field of the demands, applied to calls and sessions that meet its premises
mod Wired
pub mod Contracts
pub mod Demands
pub mod Witnesses
