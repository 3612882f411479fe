-- The lemmas of the proofs, by topic. CallerLemmas, beside this folder, has those that callers cite.

-- Numbers, and words of bits.
pub mod Numbers
pub mod WordOps
pub mod Ones
-- Varints, and runs of bytes after one.
pub mod Varints
pub mod Outcomes
-- Writes: splices of a buffer.
pub mod Splices
pub mod Writes
-- What the model says of calls.
pub mod Performs
-- Huffman texts: their codes, how they are read, and how they are given.
pub mod CodeFacts
pub mod CasedCodes
pub mod TextBytes
pub mod WindowBits
pub mod Groups
pub mod ShortTexts
pub mod FirstCodes
pub mod Fronts
pub mod Stopping
pub mod TextsRead
pub mod Giving
