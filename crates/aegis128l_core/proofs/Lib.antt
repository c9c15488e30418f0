-- What the code of the machine at work cites, each from what the calls of a step give.
--   Laid        a part xored with a block, and laid into it
--   Within      bytes that fall in one block, and the end of the input
--   Loop        whole blocks, one by one: sealing and opening in place
--   Absorbing   the same for input that is only absorbed, and its end
--   Streaming   the same for the keystream
--   Pieces      any input: the rest of a block that has been begun, and then whole blocks
--   Linked        the code of the functions that are called from above, in a world of crates
pub mod Laid
pub mod Within
pub mod Loop
pub mod Absorbing
pub mod Streaming
pub mod Pieces
pub mod Linked
