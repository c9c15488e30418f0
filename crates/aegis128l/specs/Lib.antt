-- AEGIS-128L: what the draft says, as definitions.
--   Aegis128L   the draft's algorithm: start, update, absorbing, keystream, tag
--   Cipher      AEGIS-128L as a cipher of the family
--   View        the code's structs as the definitions have them
pub mod Aegis128L
pub mod Cipher
pub mod View
