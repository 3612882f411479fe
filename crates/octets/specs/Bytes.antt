-- Bytes, and the numbers that they spell in network order.
use Rattle.std.specs.Prelude.{ℕ, zero, suc, ◌+◌, ◌*◌, ◌^◌, ◌/◌, ◌%◌, List, [], ◌∷◌, ◌++◌, length, take, drop}
pub use Rattle.octets_code.specs.Texts.{AreBytes}

-- the number that the bytes spell, the highest byte first
abbrev pub number : List ℕ → ℕ
number [] = 0
number (b ∷ bs) = b * 256 ^ length bs + number bs

-- the n bytes of l from position i on
abbrev pub part : List ℕ → ℕ → ℕ → List ℕ
part l i n = take n (drop i l)

-- the list l, in which the bytes of w replace as many bytes from position i on; w is cut where l ends
abbrev pub splice : List ℕ → ℕ → List ℕ → List ℕ
splice [] i w = []
splice (x ∷ l) (suc i) w = x ∷ splice l i w
splice (x ∷ l) zero [] = x ∷ l
splice (x ∷ l) zero (y ∷ w) = y ∷ splice l zero w

-- the list b, in which the bytes of w replace the first bytes; w is cut where b ends
abbrev pub over : List ℕ → List ℕ → List ℕ
over b w = take (length b) w ++ drop (length w) b

-- the lowest n bytes of a number, in network order
unfoldable pub network : ℕ → ℕ → List ℕ
network zero v = []
network (suc n) v = (v / 256 ^ n % 256) ∷ network n v

-- the bytes b after their length, which is a number of n bytes
unfoldable pub prefixed : ℕ → List ℕ → List ℕ
prefixed n b = network n (length b) ++ b
