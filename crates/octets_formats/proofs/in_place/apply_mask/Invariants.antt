use Rattle.std.proofs.Common.{◌≡◌, ◌≤◌, ◌<◌, ◌%◌, ℕ, slice_index, bit_xor}
use Rattle.octets_formats.proofs.in_place.apply_mask.Given as goal

abbrev pub invariant-loop-i : goal.invariant-loop-i
invariant-loop-i l = ((k : ℕ) → k < l.i
    → slice_index l.payload k ≡ bit_xor (slice_index l.fn.payload k) (slice_index l.mask (k % 4)))
    × ((k : ℕ) → l.i ≤ k → slice_index l.payload k ≡ slice_index l.fn.payload k)
