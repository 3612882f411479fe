-- Laws of `lower`.
use Rattle.std.proofs.Common.{◌≡◌, ℕ, zero, suc, ◌<◌, List, [], ◌∷◌, length, get_or, refl, ap, arith}
use Rattle.std.specs.Char.{to_ascii_lowercase}
use Rattle.std.proofs.lemmas.Bool.{cases_lt, cond_both, le-leb, lt-leb, lt-ltb, le-ltb}
use Rattle.std.proofs.lemmas.List.Elements.{All-cons, All-head, All-tail}
use Rattle.octets_code.specs.Texts.{AreBytes, lower_byte, lower}

-- a byte is lowered as std's `to_ascii_lowercase` does
pub lower_byte-std : (b : ℕ) → lower_byte b ≡ to_ascii_lowercase b
unfolding lower_byte
lower_byte-std b = grind (arith, cases_lt, lt-leb, lt-ltb, le-leb, le-ltb)

-- lowered bytes are as many
pub length-lower : (v : List ℕ) → length (lower v) ≡ length v
unfolding lower
length-lower [] = refl
length-lower (c ∷ v) = ap suc (length-lower v)

-- the lowered byte at i is the byte at i, lowered
pub get_or-lower : (v : List ℕ) (i d : ℕ) → i < length v → get_or (lower v) i d ≡ lower_byte (get_or v i d)
unfolding lower
get_or-lower [] i d h = absurd (omega arith)
get_or-lower (c ∷ v) zero d h = refl
get_or-lower (c ∷ v) (suc i) d h = get_or-lower v i d (omega arith)

-- a byte that is lowered is a byte
pub lower_byte-lt : (b : ℕ) → b < 256 → lower_byte b < 256
unfolding lower_byte
lower_byte-lt b h = grind (arith, cases_lt, lt-leb, le-leb, cond_both)

-- bytes that are lowered are bytes
pub lower_bytes : (v : List ℕ) → AreBytes v → AreBytes (lower v)
unfolding lower
lower_bytes [] h = h
lower_bytes (c ∷ v) h =
    grind (arith, All-cons, lower_byte-lt, All-head, All-tail, (lower_bytes v (All-tail (λ z. z < 256) c v h)))
