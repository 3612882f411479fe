-- What a cursor reads of a packet: its kind, and the fields after it.
use Rattle.std.proofs.Common.{◌≡◌, ℕ, ◌+◌, ◌-◌, ◌≤◌, List, [], ◌∷◌, length, take, Result, Err, ap, ◌∙◌}
use Rattle.std.proofs.Common.{arith, length-drop, length-take-le}
use Rattle.octets.specs.Bytes.{number, part}
use Rattle.octets.specs.Varints.{BeginsVarint, shortest}
use Rattle.octets.specs.Cursor.{bytes, position, rest, Passes, IsUnchanged}
use Rattle.octets.specs.Octets.{RefusesPrefixed, Octets}
use Rattle.octets.specs.Octets as Prefixed
use Rattle.octets_tool.specs.declared.packet.PacketFault.{PacketFault}
use Rattle.octets_tool.specs.declared.packet.PacketFault.TheVariants.{Refused}
use Rattle.octets_tool.specs.Packets.{PacketFields, IsBody, no_number, no_length, no_payload, no_kind, RefusesBody}
use Rattle.octets_tool.specs.Packets.{IsBodyResult, BeginsKind, IsResultOf, OneByte, ShortestVarint}
use Rattle.std.proofs.lemmas.Grind.{common_steps}
use Rattle.octets_tool.proofs.PacketLaws.{body_is, Tells, joined_result, least_begins}

-- ---- the number and the payload

-- an incomplete number
pub number_refused : (old new : Octets) → (2 ≤ length (rest old) → ⊥) → IsUnchanged old new → RefusesBody old new
number_refused old new few same = (0, no_number (omega (arith, few)), omega (arith, same.0))

-- a payload after a number, whose length is incomplete or which is itself incomplete
pub payload_refused : (start old new : Octets) → 2 ≤ length (rest start) → Passes start old 2 → RefusesPrefixed old new
    → RefusesBody start new
payload_refused start old new two passed (Prefixed.no_length none same) =
    (2, no_length two (rw passed.2 at none), omega (arith, same.0, passed.0))
payload_refused start old new two passed (Prefixed.no_bytes w n begins short further) =
    let long : length (rest old) ≡ length (rest start) - 2 = ap length passed.2 ∙ length-drop 2 (rest start) in (
      2 + w,
      no_payload w n two (rw passed.2 at begins) (omega (arith, long, short, two)),
      omega (arith, further.0, passed.0),
    )

-- a number and a payload that were read one after another
pub fields_read : (start old new : Octets) (n w len : ℕ) (payload : List ℕ) → 2 ≤ length (rest start)
    → n ≡ number (take 2 (rest start)) → Passes start old 2
    → BeginsVarint (rest old) w len → w + len ≤ length (rest old) → payload ≡ part (rest old) w len
    → Passes old new (w + len)
    → IsBody (rest start) n payload (rest new)
fields_read start old new n w len payload two is_number passed begins fits is_payload further = grind (arith, body_is)

-- ---- the kind

-- the result of a reader that passed a kind and read on
pub result_behind : (Kind : List ℕ → ℕ → Type 0) → Tells Kind → (input : List ℕ) (start old : Octets) (w kind : ℕ)
    (r : Result PacketFields PacketFault) → position start ≡ 0 → rest start ≡ input
    → BeginsKind Kind input w kind → Passes start old w → IsBodyResult (rest old) (position old) kind r
    → IsResultOf Kind input r
result_behind Kind tells input start old w kind r zero whole begins passed is = grind (arith, joined_result)

-- before a cursor at the start of the input all of it remains
pub whole_rest : (start : Octets) (input : List ℕ) → position start ≡ 0 → bytes start ≡ input → rest start ≡ input
whole_rest start input zero whole = rw (zero, whole)

-- an input with a byte begins with a kind of one byte
pub begins_byte : (input : List ℕ) (n : ℕ) → 1 ≤ length input → n ≡ number (take 1 input) → BeginsKind OneByte input 1 n
begins_byte [] n one e = absurd (omega (arith, one))
begins_byte (first ∷ more) n one e = grind (arith, common_steps)

-- an input with none begins with no such kind
pub no_byte : (input : List ℕ) → (1 ≤ length input → ⊥) → (w n : ℕ) → BeginsKind OneByte input w n → ⊥
no_byte input none w n begins = grind (arith, length-take-le)

-- reading an input that begins with no varint of the least width fails at 0
pub shortest_lacks : (start : Octets) (input : List ℕ) → position start ≡ 0 → bytes start ≡ input
    → ((n : ℕ) → BeginsVarint (rest start) (shortest n) n → ⊥)
    → IsResultOf ShortestVarint input (Err (Refused 0))
shortest_lacks start input zero whole none =
    no_kind (λ w n b. none n
    (rw (whole_rest start input zero whole) (least_begins input w n b).1))
