-- Each input comes to one result as a packet, with each way to spell the kind.
use Rattle.std.proofs.Common.{◌≡◌, ◌↔◌, ◌⊎◌, ◌<◌, ℕ, ◌+◌, ◌≤◌, List, [], ◌∷◌, ◌++◌, length, take, drop, Result, Ok}
use Rattle.std.proofs.Common.{Err, inl, inr, refl, ap, sym, subst, ◌∙◌, arith, append_assoc, length-append, length-drop}
use Rattle.std.proofs.Common.{length-take-le}
use Rattle.std.proofs.Math.Decide.{dec_le}
use Rattle.std.proofs.lemmas.Bool.{cases_eq}
use Rattle.std.proofs.lemmas.List.{take-append-drop, drop-drop, take_at, drop_at}
use Rattle.octets.specs.Bytes.{number, part}
use Rattle.octets.specs.Varints.{IsVarint, BeginsVarint, HasNoVarint, shortest}
use Rattle.octets.proofs.lemmas.Varints.{begins_one, begins_shortest}
use Rattle.octets_script.proofs.Decisions.{varint_or_none}
use Rattle.octets_tool.specs.declared.packet.PacketFault.{PacketFault}
use Rattle.octets_tool.specs.declared.packet.PacketFault.TheVariants.{Refused, Trailing}
use Rattle.octets_tool.specs.Packets.{PacketFields, IsBody, no_number, no_length, no_payload}
use Rattle.octets_tool.specs.Packets.{IsBodyResult, BeginsKind, IsPacketOf, HasTrailingOf, IsRefusedOf, no_kind}
use Rattle.octets_tool.specs.Packets.{no_body, IsResultOf, OneByte, ShortestVarint}

-- ---- after the kind

-- two bytes, a varint, and as many bytes as it says are what follows a kind
pub body_is : (l : List ℕ) (w len : ℕ) → 2 ≤ length l → BeginsVarint (drop 2 l) w len → w + len ≤ length (drop 2 l)
    → IsBody l (number (take 2 l)) (part (drop 2 l) w len) (drop (w + len) (drop 2 l))
unfolding BeginsVarint
body_is l w len two begins fits =
    let behind = drop 2 l in
    let long = length-take-le len (drop w behind) (omega (arith, length-drop w behind)) in
    record {
      number_bytes = take 2 l;
      length_bytes = take w behind;
      width = w;
      two_bytes = length-take-le 2 l two;
      is_number = refl;
      is_length = rw long begins.1;
      joined = sym (rw (← drop-drop len w behind) (simp (append_assoc, take-append-drop)));
    }

-- what follows a kind is its number, a varint, and what the varint says
body_begins : (l : List ℕ) (n : ℕ) (p after : List ℕ) (is : IsBody l n p after)
    → BeginsVarint (drop 2 l) is.width (length p) × (length l ≡ 2 + (is.width + length p) + length after)
    × (number (take 2 l) ≡ n) × (part (drop 2 l) is.width (length p) ≡ p)
    × (drop (length p) (drop is.width (drop 2 l)) ≡ after)
unfolding BeginsVarint
body_begins l n p after is =
    let v = is.is_length in
    let said = p ++ after in
    let rest = is.length_bytes ++ said in
    let joined : l ≡ is.number_bytes ++ rest = is.joined ∙ simp append_assoc in
    let front : take 2 l ≡ is.number_bytes = rw (joined, take_at is.number_bytes rest 2 is.two_bytes) in
    let behind : drop 2 l ≡ rest = rw (joined, drop_at is.number_bytes rest 2 is.two_bytes) in
    rw (behind, front, drop_at is.length_bytes said _ v.has_length, take_at is.length_bytes said _ v.has_length) (
      (omega (arith, length-append is.length_bytes said, v.has_length), v),
      grind (arith, length-append, ap length joined),
      is.is_number,
      take_at p after (length p) refl,
      drop_at p after (length p) refl,
    )

-- the result for what follows a kind: its fields, or how many bytes are left over
abbrev ended : ℕ → ℕ → List ℕ → List ℕ → Result PacketFields PacketFault
ended kind n p [] = Ok (record { kind = kind; number = n; payload = p })
ended kind n p (b ∷ after) = Err (Trailing (length (b ∷ after)))

-- the result for bytes, by their varint or by the incomplete field
abbrev Ends : List ℕ → ℕ → ℕ → Result PacketFields PacketFault → Type 0
Ends l at kind r =
    ((w : ℕ) × (len : ℕ) × BeginsVarint (drop 2 l) w len × (2 + (w + len) ≤ length l)
    × (r ≡ ended kind (number (take 2 l)) (part (drop 2 l) w len) (drop len (drop w (drop 2 l)))))
    ⊎ (((w : ℕ) × (len : ℕ) × BeginsVarint (drop 2 l) w len × (2 ≤ length l) × (length l < 2 + w + len)
    × (r ≡ Err (Refused (at + (2 + w)))))
    ⊎ (((2 ≤ length l) × HasNoVarint (drop 2 l) × (r ≡ Err (Refused (at + 2))))
    ⊎ ((length l < 2) × (r ≡ Err (Refused (at + 0))))))

trails : (kind n c : ℕ) (p after : List ℕ) → length after ≡ c → 0 < c → Err (Trailing c) ≡ ended kind n p after
trails kind n c p [] e h = absurd (omega (arith, e))
trails kind n c p (b ∷ after) e h = rw (← e)

whole : (l : List ℕ) (at kind n : ℕ) (p after : List ℕ) (r : Result PacketFields PacketFault) → IsBody l n p after
    → r ≡ ended kind n p after → Ends l at kind r
whole l at kind n p after r is e =
    let b = body_begins l n p after is in inl (is.width, length p, b.0, omega (arith, b.1), cc)

ends : (l : List ℕ) (at kind : ℕ) (r : Result PacketFields PacketFault) → IsBodyResult l at kind r → Ends l at kind r
ends l at kind (Ok f) h = whole l at kind f.number f.payload [] _ h.1 (let e = h.0 in grind arith)
ends l at kind (Err (Trailing c)) h = whole l at kind h.0 h.1 h.2 _ h.3 (trails kind h.0 c h.1 h.2 h.4 h.5)
ends l at kind (Err (Refused o)) (_, no_number few, e) = inr (inr (inr (few, rw e)))
ends l at kind (Err (Refused o)) (_, no_length two none, e) = inr (inr (inl (two, none, rw e)))
ends l at kind (Err (Refused o)) (_, no_payload w len two v short, e) = inr (inl (w, len, v, two, short, rw e))

-- bytes come to one result at most
ends_once : (l : List ℕ) (at kind : ℕ) (r q : Result PacketFields PacketFault) → Ends l at kind r → Ends l at kind q
    → r ≡ q
ends_once l at kind r q h k = grind (arith, begins_one)

body_once : (l : List ℕ) (at kind : ℕ) (r q : Result PacketFields PacketFault) → IsBodyResult l at kind r
    → IsBodyResult l at kind q → r ≡ q
body_once l at kind r q h k = ends_once l at kind r q (ends l at kind r h) (ends l at kind q k)

-- the result for what follows a kind and ends with these bytes
by_end : (at kind n : ℕ) (l payload after : List ℕ) → IsBody l n payload after
    → (r : Result PacketFields PacketFault) × IsBodyResult l at kind r
by_end at kind n l payload [] is = (Ok (record { kind = kind; number = n; payload = payload }), (refl, is))
by_end at kind n l payload (b ∷ after) is =
    (Err (Trailing (length (b ∷ after))), (n, payload, b ∷ after, is, refl, omega arith))

body_comes : (at kind : ℕ) (l : List ℕ) → (r : Result PacketFields PacketFault) × IsBodyResult l at kind r
body_comes at kind l = elim (dec_le 2 (length l)) [
  | no few ↦ (Err (Refused (at + 0)), (0, no_number (omega (arith, few)), refl))
  | yes two ↦ elim (varint_or_none (drop 2 l)) [
    | inr none ↦ (Err (Refused (at + 2)), (2, no_length two none, refl))
    | inl v ↦ elim (dec_le (v.0 + v.1) (length (drop 2 l))) [
      | yes fits ↦ by_end at kind _ l _ _ (body_is l v.0 v.1 two v.2 fits)
      | no short ↦ (
        Err (Refused (at + (2 + v.0))),
        (2 + v.0, no_payload v.0 v.1 two v.2 (omega (arith, short, length-drop 2 l, two)), refl),
      )
    ]
  ]
]

-- ---- with a kind before it

-- an input begins one kind at most, and it is decided whether it begins one
pub record Tells (Kind : List ℕ → ℕ → Type 0) : Type 0 where
  pub once : (input : List ℕ) (w n v m : ℕ) → BeginsKind Kind input w n → BeginsKind Kind input v m → (w ≡ v) × (n ≡ m)
  pub some : (input : List ℕ) → Dec ((w : ℕ) × (n : ℕ) × BeginsKind Kind input w n)

module _ (Kind : List ℕ → ℕ → Type 0) (tells : Tells Kind) (input : List ℕ) where
  -- a kind and what follows it
  joined_packet : (w : ℕ) (fields : PacketFields) (after : List ℕ) → BeginsKind Kind input w fields.kind
      → IsBody (drop w input) fields.number fields.payload after → IsPacketOf Kind input fields after
  joined_packet w fields after begins is =
      record {
        kind_bytes = take w input;
        body = drop w input;
        is_kind = begins.1;
        is_body = is;
        joined = sym (take-append-drop w input);
      }

  -- what the bytes after a kind come to, the input comes to
  pub joined_result : (w n : ℕ) (r : Result PacketFields PacketFault) → BeginsKind Kind input w n
      → IsBodyResult (drop w input) w n r → IsResultOf Kind input r
  joined_result w n (Ok fields) begins is = joined_packet w fields [] (rw is.0 begins) is.1
  joined_result w n (Err (Trailing count)) begins is =
      let fields : PacketFields = record { kind = n; number = is.0; payload = is.1 } in
      record {
        fields = fields;
        after = is.2;
        is_packet = joined_packet w fields is.2 begins is.3;
        as_many = is.4;
        some = is.5;
      }
  joined_result w n (Err (Refused offset)) begins is = rw is.2 (no_body begins is.1)

  -- the parts of a packet
  parts : (fields : PacketFields) (after : List ℕ) → IsPacketOf Kind input fields after
      → (w : ℕ) × BeginsKind Kind input w fields.kind × IsBody (drop w input) fields.number fields.payload after
  parts fields after is =
      let w = length is.kind_bytes in
      let front = ap (take w) is.joined ∙ take_at is.kind_bytes is.body w refl in
      let back = ap (drop w) is.joined ∙ drop_at is.kind_bytes is.body w refl in
      let fits : w ≤ length input = omega (arith, ap length is.joined, length-append is.kind_bytes is.body) in
      (w, (fits, rw front is.is_kind), rw back is.is_body)

  -- what the input comes to, by its parts
  in_parts : (r : Result PacketFields PacketFault) → IsResultOf Kind input r
      → (((w n : ℕ) → BeginsKind Kind input w n → ⊥) × (r ≡ Err (Refused 0)))
      ⊎ ((w : ℕ) × (n : ℕ) × BeginsKind Kind input w n × IsBodyResult (drop w input) w n r)
  in_parts (Ok f) is = let p = parts f [] is in inr (p.0, f.kind, p.1, (refl, p.2))
  in_parts (Err (Trailing c)) is =
      let f = is.fields in
      let p = parts f is.after is.is_packet in
      inr (p.0, f.kind, p.1, (f.number, f.payload, is.after, p.2, is.as_many, is.some))
  in_parts (Err (Refused _)) (no_kind none) = inl (none, refl)
  in_parts (Err (Refused _)) (no_body {width = w} {n = n} begins at) = inr (w, n, begins, (_, at, refl))

  -- the input comes to one result at most
  pub result_once : (r q : Result PacketFields PacketFault) → IsResultOf Kind input r → IsResultOf Kind input q → r ≡ q
  result_once r q is it = grind (arith, in_parts, tells, body_once)

  -- and to one at least
  pub result_comes : (r : Result PacketFields PacketFault) × IsResultOf Kind input r
  result_comes = elim (tells.some input) [
    | no none ↦ (Err (Refused 0), no_kind (λ w n begins. none (w, n, begins)))
    | yes k ↦ (let body = body_comes k.0 k.1 (drop k.0 input) in (body.0, joined_result k.0 k.1 body.0 k.2 body.1))
  ]

  says : (r : Result PacketFields PacketFault) → IsResultOf Kind input r → (q : Result PacketFields PacketFault)
      → (r ≡ q) ↔ IsResultOf Kind input q
  says r is q = ((λ e. subst (IsResultOf Kind input) e is), result_once r q is)

  -- with the result r the input is a packet, or has more bytes, or is no packet
  pub answered : (r : Result PacketFields PacketFault) → IsResultOf Kind input r
      → ((fields : PacketFields) → (r ≡ Ok fields) ↔ IsPacketOf Kind input fields [])
      × ((n : ℕ) → (r ≡ Err (Trailing n)) ↔ HasTrailingOf Kind input n)
      × ((n : ℕ) → (r ≡ Err (Refused n)) ↔ IsRefusedOf Kind input n) × IsResultOf Kind input r
  answered r is = (λ f. says r is (Ok f), λ n. says r is (Err (Trailing n)), λ n. says r is (Err (Refused n)), is)

-- ---- both kinds

-- so it is of a kind of one byte
pub tells_byte : Tells OneByte
tells_byte = record { once = once; some = some }
  where
    once : (input : List ℕ) (w n v m : ℕ) → BeginsKind OneByte input w n → BeginsKind OneByte input v m
        → (w ≡ v) × (n ≡ m)
    once input w n v m h k = grind (arith, length-take-le w input h.0, length-take-le v input k.0)

    some : (input : List ℕ) → Dec ((w : ℕ) × (n : ℕ) × BeginsKind OneByte input w n)
    some [] = no (λ h. omega (arith, ap length h.2.1, length-take-le {A = ℕ} h.0 [] h.2.0, h.2.0))
    some (b ∷ input) = yes (1, b, (omega arith, refl))

-- a kind is a varint of the least width
pub least_begins : (input : List ℕ) (w n : ℕ) → BeginsKind ShortestVarint input w n
    → (w ≡ shortest n) × BeginsVarint input (shortest n) n
unfolding BeginsVarint
least_begins input w n h =
    let e : w ≡ shortest n = sym (length-take-le w input h.0) ∙ h.1.has_length in
    (e, subst (λ k. (k ≤ length input) × IsVarint (take k input) (shortest n) n) e h)

-- and of one that is a varint of the least width
pub tells_shortest : Tells ShortestVarint
unfolding BeginsVarint
tells_shortest = record { once = once; some = some }
  where
    once : (input : List ℕ) (w n v m : ℕ) → BeginsKind ShortestVarint input w n → BeginsKind ShortestVarint input v m
        → (w ≡ v) × (n ≡ m)
    once input w n v m h k =
        let p = least_begins input w n h in
        let q = least_begins input v m k in
        let one = begins_one input (shortest n) n (shortest m) m p.1 q.1 in
        grind arith

    some : (input : List ℕ) → Dec ((w : ℕ) × (n : ℕ) × BeginsKind ShortestVarint input w n)
    some input = elim (varint_or_none input) [
      | inr none ↦ no (λ h. none (shortest h.1) h.1 (least_begins input h.0 h.1 h.2).1)
      | inl v ↦ elim (cases_eq (shortest v.1) v.0) [
        | inl e ↦ yes (v.0, v.1, (v.2.0, subst (λ k. IsVarint (take v.0 input) k v.1) (sym e) v.2.1))
        | inr wide ↦ no (λ h. wide (begins_shortest input v.0 v.1 h.1 v.2 (least_begins input h.0 h.1 h.2).1).1)
      ]
    ]
