-- How the replay counts, and what the replay of a section has shown.
pub mod Tallies
pub mod Walk
