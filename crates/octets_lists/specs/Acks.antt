-- QUIC's ACK frames (RFC 9000, section 19.3), after their type.
use Rattle.std.specs.Prelude.{◌≤◌, ◌<◌, ◌+◌, ◌-◌, ◌*◌, ◌%◌, ◌^◌, ℕ, List, length, take, drop}
use Rattle.octets.specs.Bytes.{number}
use Rattle.octets.specs.Varints.{marked_width}

-- the number of the varint with which l begins: all of its bits but the mark; and the bytes after it
abbrev pub marked_value : List ℕ → ℕ
marked_value l = number (take (marked_width l) l) % 2 ^ (8 * marked_width l - 2)

abbrev pub after : List ℕ → List ℕ
after l = drop (marked_width l) l

-- l begins with a whole varint
abbrev pub HasNumber : List ℕ → Type 0
HasNumber l = marked_width l ≤ length l

-- l begins with a range: a gap and a length. It goes down by `need l` packet numbers from the smallest before it
unfoldable pub HasRange : List ℕ → Type 0
HasRange l = HasNumber l × HasNumber (after l)

unfoldable pub need : List ℕ → ℕ
need l = marked_value l + 2 + marked_value (after l)

-- how far the largest packet number of the range is below the smallest before it
unfoldable pub skipped : List ℕ → ℕ
skipped l = marked_value l + 2

unfoldable pub after_range : List ℕ → List ℕ
after_range l = after (after l)

-- k ranges below a packet number t are at l, and the first of them is complete and doesn't go below 0; or not
unfoldable pub Goes : ℕ → ℕ → List ℕ → Type 0
Goes k t l = (1 ≤ k) × HasRange l × (need l ≤ t)

unfoldable pub Stops : ℕ → ℕ → List ℕ → Type 0
Stops k t l = Goes k t l → ⊥

-- if k ranges below a packet number t are at l, and as many are passed as are complete and don't go below 0, then i
-- ranges are left, the smallest packet number is s, and the bytes m remain
pub data EndsAt : ℕ → ℕ → List ℕ → ℕ → ℕ → List ℕ → Type 0 where
  here : {k t : ℕ} {l : List ℕ} → Stops k t l → EndsAt k t l k t l
  later : {k t i s : ℕ} {l m : List ℕ} → Goes k t l → EndsAt (k - 1) (t - need l) (after_range l) i s m
      → EndsAt k t l i s m

-- all ranges are there; or bytes of one are missing; or one goes below 0
unfoldable pub AreRanges : ℕ → ℕ → List ℕ → Type 0
AreRanges k t l = (s : ℕ) × (m : List ℕ) × EndsAt k t l 0 s m

unfoldable pub LacksRange : ℕ → ℕ → List ℕ → Type 0
LacksRange k t l = (i s : ℕ) × (m : List ℕ) × EndsAt k t l i s m × (1 ≤ i) × (HasRange m → ⊥)

unfoldable pub GoesBelow : ℕ → ℕ → List ℕ → Type 0
GoesBelow k t l = (i s : ℕ) × (m : List ℕ) × EndsAt k t l i s m × (1 ≤ i) × HasRange m × (s < need m)

-- the fields before the ranges: the largest packet number, the delay, how many ranges follow, and the first range
unfoldable pub largest_of : List ℕ → ℕ
largest_of l = marked_value l

unfoldable pub delay_of : List ℕ → ℕ
delay_of l = marked_value (after l)

unfoldable pub count_of : List ℕ → ℕ
count_of l = marked_value (after (after l))

unfoldable pub first_of : List ℕ → ℕ
first_of l = marked_value (after (after (after l)))

unfoldable pub ranges_of : List ℕ → List ℕ
ranges_of l = after (after (after (after l)))

unfoldable pub HasFields : List ℕ → Type 0
HasFields l = HasNumber l × HasNumber (after l) × HasNumber (after (after l)) × HasNumber (after (after (after l)))

-- the smallest packet number of the first range
unfoldable pub smallest_of : List ℕ → ℕ
smallest_of l = largest_of l - first_of l

-- a frame, and the three reasons why there is none
abbrev pub IsStart : List ℕ → Type 0
IsStart l = HasFields l × (first_of l ≤ largest_of l)

unfoldable pub IsAck : List ℕ → Type 0
IsAck l = IsStart l × AreRanges (count_of l) (smallest_of l) (ranges_of l)

unfoldable pub LacksFields : List ℕ → Type 0
LacksFields l = HasFields l → ⊥

unfoldable pub FirstIsBelow : List ℕ → Type 0
FirstIsBelow l = HasFields l × (largest_of l < first_of l)

unfoldable pub RangeIsCut : List ℕ → Type 0
RangeIsCut l = IsStart l × LacksRange (count_of l) (smallest_of l) (ranges_of l)

unfoldable pub RangeIsBelow : List ℕ → Type 0
RangeIsBelow l = IsStart l × GoesBelow (count_of l) (smallest_of l) (ranges_of l)
