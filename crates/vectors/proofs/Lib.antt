-- Tallies      a tally that has counted nothing
-- Walking      a walk goes on with a section after one record more
pub mod Tallies
pub mod Walking
