-- Laws of the draft's AEGIS-128L.
--   Steps        the steps of the definitions, from what the calls of a step give
--   OneBlock     one block of 32 bytes under the keystream
--   Rounds       the update as a loop over the eight blocks
--   Tags         the last updates, and the tag of either size
--   ByteCipher   bytes give bytes
--   Linked        the code of the functions that are called from above, in a world of crates
pub mod Steps
pub mod OneBlock
pub mod Rounds
pub mod Tags
pub mod ByteCipher
pub mod Linked
