-- NonceRule       two pairs give the same nonce only if they are the same pair
-- RecordShape     what the answer 0 of the ladder says of a record's numbers, and the other way round
-- Rungs           the ladder that the code climbs with `?`
-- RecordParts     the parts of a record, cut out where they stand, and opened in place
-- RecordAnswers   what opening a record leaves, by its answer: what the code cites
-- RecordLeaves    what opening a record leaves, byte by byte: what callers cite
-- SealedRecord    a record of a sealed message opens to that message, and only such a record opens
-- DecimalDigits   the decimal digits of a number are those that std writes
-- Placing         a text written into a buffer, and where it stands
-- Replying        the reply to an input, from what opening it left
-- ReplyText       what the program writes is document 01's text
-- Unique          two outcomes that meet one promise are equal
pub mod NonceRule
pub mod RecordShape
pub mod Rungs
pub mod RecordParts
pub mod RecordAnswers
pub mod RecordLeaves
pub mod SealedRecord
pub mod DecimalDigits
pub mod Placing
pub mod Replying
pub mod ReplyText
pub mod Unique
