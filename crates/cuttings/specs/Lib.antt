-- Pieces       what a session does with the pieces of a text
-- Fed          a session that is fed one piece and then another is fed both
-- Laws         the laws of pieces, for each kind of session
pub mod Pieces
pub mod Fed
pub mod Laws
