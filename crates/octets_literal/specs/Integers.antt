-- Integers (RFC 7541, section 5.1).
use Rattle.std.specs.Prelude.{◌≡◌, ℕ, zero, suc, ◌+◌, ◌-◌, ◌*◌, ◌/◌, ◌%◌, ◌^◌, ◌<◌, ◌≤◌}
use Rattle.std.specs.Prelude.{◌⊎◌, nat_lt, List, [], ◌∷◌, length, take, if◌then◌else◌}

-- bit 7 of each byte except the last is set
unfoldable pub EndsOnce : List ℕ → Type 0
EndsOnce [] = ⊥
EndsOnce (b ∷ bs) = ((b < 128) × (bs ≡ [])) ⊎ ((128 ≤ b) × EndsOnce bs)

-- the number whose groups of 7 bits are the lower bits of the bytes, the lowest group first
unfoldable pub grouped : List ℕ → ℕ
grouped [] = 0
grouped (b ∷ bs) = b % 128 + 128 * grouped bs

-- The bytes b are the integer n with a prefix of `size` bits. The other bits of the first byte are the number `mark`.
pub data IsInteger (size mark n : ℕ) (b : List ℕ) : Type 0 where
  in_prefix : n < 2 ^ size - 1 → b ≡ (mark * 2 ^ size + n) ∷ [] → IsInteger size mark n b
  behind_prefix : {more : List ℕ} → EndsOnce more → n ≡ 2 ^ size - 1 + grouped more
      → b ≡ (mark * 2 ^ size + (2 ^ size - 1)) ∷ more → IsInteger size mark n b

-- the first k bytes of l are the integer n
pub record BeginsInteger (l : List ℕ) (k size mark n : ℕ) : Type 0 where
  pub within : k ≤ length l
  pub is_integer : IsInteger size mark n (take k l)

-- n in groups of 7 bits, the lowest first, as few as hold n, and at most k + 1
unfoldable pub groups_of : ℕ → ℕ → List ℕ
groups_of zero n = n % 128 ∷ []
groups_of (suc k) n = if nat_lt n 128 then n ∷ [] else (n % 128 + 128) ∷ groups_of k (n / 128)

-- the shortest integer of n, if at most five groups follow its prefix
unfoldable pub integer : ℕ → ℕ → ℕ → List ℕ
integer size mark n =
    let full = 2 ^ size - 1 in
    if nat_lt n full then (mark * 2 ^ size + n) ∷ [] else (mark * 2 ^ size + full) ∷ groups_of 4 (n - full)
