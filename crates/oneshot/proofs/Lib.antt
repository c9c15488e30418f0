-- What the one-shots come to, from what their steps give, for any cipher.
--   Texts         the state after key, nonce and data, the text and its tag, the MAC
--   Laid          a text laid over a buffer and worked on there
--   SealLeaves    what seal leaves
--   OpenLeaves    what open leaves
--   OtherLeaves   what the streams and the MAC leave
--   Expected      sizes that are passed on, and the fill of a machine
--   Linked        the code of the functions that are called from above, in a world of crates
pub mod Texts
pub mod Laid
pub mod SealLeaves
pub mod OpenLeaves
pub mod OtherLeaves
pub mod Expected
pub mod Linked
