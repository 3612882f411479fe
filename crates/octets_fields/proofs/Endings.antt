use Rattle.std.proofs.Common.{◌≡◌, ◌≢◌, ◌<◌, ◌++◌, ℕ, List}
use Rattle.std.proofs.Common.{length, take, slice_index_or, append_assoc, length-append, arith}
use Rattle.std.proofs.lemmas.List.{get_or-take, get_or_at, get_or_append_left, length-take}
use Rattle.std.proofs.lemmas.Grind.{get_or_default_zero}
use Rattle.octets.specs.Bytes.{network}
use Rattle.octets_fields.specs.Strings.{IsText, ended}

-- the bytes before the first zero byte are a text
pub text_before : (l : List ℕ) (n : ℕ) → n < length l → ((k : ℕ) → k < n → slice_index_or l k 0 ≢ 0)
    → IsText (take n l)
unfolding IsText
text_before l n less others = grind (arith, get_or-take, get_or_default_zero, length-take)

-- in a text with its zero byte, and other bytes after it, the first zero byte is at the end of the text
pub zero_at_end : (text after : List ℕ) → IsText text
    → (length text < length (ended text ++ after)) × (slice_index_or (ended text ++ after) (length text) 0 ≡ 0)
    × ((k : ℕ) → k < length text → slice_index_or (ended text ++ after) k 0 ≢ 0)
unfolding IsText ended network
zero_at_end text after is = grind (arith, append_assoc, get_or_at, get_or_append_left, length-append)
