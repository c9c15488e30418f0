-- The format of the recorded list, what is taken out of it, and what its records say by the promises' definitions.
pub mod List
pub mod Entries
pub mod Records
