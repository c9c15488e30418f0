-- The nonce rule and the hub record of document 01, as definitions.
--   Nonce     a nonce from a scale number and a record number
--   Record    limits, layout, order of refusals, and what opening leaves
--   Decimal   a number in decimal
--   Reply     what the program writes, and where
--   View      the code's structs as the definitions have them
pub mod Nonce
pub mod Record
pub mod Decimal
pub mod Reply
pub mod View
