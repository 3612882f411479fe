-- Hand-written proofs of the calls that lend a range of a buffer and get it back; the kit calls them walks. Nothing
-- here depends on packets.

-- The steps of such a proof, and what it passes on.
pub mod WalkSteps
pub mod CallSteps
pub mod CursorWalks
pub mod ResultValues
pub mod PartValues
pub mod LentValues
-- Loans of a slice, of a cursor, and of what was lent itself.
pub mod SliceBuffers
pub mod SliceCursors
pub mod Slices
pub mod LendsWithin
pub mod Reborrows
pub mod LendingWalks
pub mod Recasts
