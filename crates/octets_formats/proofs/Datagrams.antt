-- A datagram frame that was read, one that was written, and one whose data are incomplete.
use Rattle.std.proofs.Common.{◌≡◌, ℕ, ◌+◌, ◌<◌, ◌≤◌, ◌^◌, List, ◌++◌, take, drop, length, ap, sym, subst, ◌∙◌, arith}
use Rattle.std.proofs.Common.{append_assoc, length-append, length-take, length-drop, refl}
use Rattle.std.proofs.Common.{Result, Ok, Err, IsOk, IsOkAnd, IfOk}
use Rattle.std.proofs.lemmas.List.{drop-drop, take_at}
use Rattle.octets.specs.Bytes.{network, number, part}
use Rattle.octets.specs.Cursor.{bytes, position, rest, Passes}
use Rattle.octets.specs.Octets.{ReadsPrefixed, RefusesPrefixed, Octets as Cursor}
use Rattle.octets.specs.Octets as Octets
use Rattle.octets.specs.Varints.{BeginsVarint, HasNoVarint, shortest}
use Rattle.octets.proofs.CallerLemmas.{passes_more, number_part, least_run, length_network, length_varint}
use Rattle.octets_formats.specs.Varints.{least}
use Rattle.octets_formats.proofs.Passing.{stays}

-- the bytes that are written for a frame begin with its type, the length of its data and the data
pub record BeginsDatagram (l : List ℕ) (kind : ℕ) (payload after : List ℕ) : Type 0 where
  pub some : 1 ≤ length l
  pub is_kind : number (take 1 l) ≡ kind
  pub is_length : BeginsVarint (drop 1 l) (shortest (length payload)) (length payload)
  pub is_payload : part (drop 1 l) (shortest (length payload)) (length payload) ≡ payload
  pub whole : shortest (length payload) + length payload ≤ length (drop 1 l)
  pub behind : drop (1 + (shortest (length payload) + length payload)) l ≡ after

pub datagram_begins : (l : List ℕ) (kind : ℕ) (payload after : List ℕ) → kind < 64 → length payload < 2 ^ 62
    → l ≡ network 1 kind ++ least (length payload) ++ payload ++ after → BeginsDatagram l kind payload after
datagram_begins l kind payload after small short e =
    let w = shortest (length payload) in
    let tail = least (length payload) ++ (payload ++ after) in
    let spelled : l ≡ network 1 kind ++ tail =
    e ∙ (append_assoc (network 1 kind ++ least (length payload)) payload after
    ∙ append_assoc (network 1 kind) (least (length payload)) (payload ++ after)) in
    let first = number_part 1 kind tail (omega (arith, small)) in
    let run = least_run payload after short in
    let there : drop 1 l ≡ tail = ap (drop 1) spelled ∙ first.2 in record {
      some = omega (arith, ap length spelled, first.3);
      is_kind = ap (λ t. number (take 1 t)) spelled ∙ first.1;
      is_length = subst (λ t. BeginsVarint t w (length payload)) (sym there) run.1;
      is_payload = ap (λ t. part t w (length payload)) there ∙ run.2;
      whole = omega (arith, ap length there, run.4);
      behind = sym (drop-drop (w + length payload) 1 l) ∙ (ap (drop (w + length payload)) there ∙ run.3);
    }

-- the type was read, and then the data after their length
pub datagram_read : (start mid new v : Cursor) → Passes start mid 1 → ReadsPrefixed mid new v
    → (w : ℕ) × BeginsVarint (drop 1 (rest start)) w (length (bytes v))
    × (bytes v ≡ part (drop 1 (rest start)) w (length (bytes v))) × Passes start new (1 + (w + length (bytes v)))
datagram_read start mid new v h r =
    let long : length (bytes v) ≡ r.len =
    omega (
      arith,
      ap length r.is_view.0,
      length-take r.len (drop r.width (rest mid)),
      length-drop r.width (rest mid),
      r.within,
    ) in
    let is_length = subst (λ t. BeginsVarint t r.width r.len) h.2 r.begins in (
      r.width,
      subst (BeginsVarint (drop 1 (rest start)) r.width) (sym long) is_length,
      r.is_view.0 ∙ (ap (λ t. part t r.width r.len) h.2 ∙ ap (part (drop 1 (rest start)) r.width) (sym long)),
      subst (λ n. Passes start new (1 + (r.width + n))) (sym long)
          (passes_more start mid new 1 (r.width + r.len) h r.passes),
    )

-- the length of the data is incomplete
pub length_refused : (start mid new : Cursor) → Passes start mid 1 → RefusesPrefixed mid new
    → HasNoVarint (drop 1 (rest start)) → Passes start new 1
length_refused start mid new h (Octets.no_length none same) no_varint = stays start mid new 1 h same
length_refused start mid new h (Octets.no_bytes w n begins short passed) no_varint =
    absurd (no_varint w n (subst (λ t. BeginsVarint t w n) h.2 begins))

-- a view of what was written at the start of a buffer
pub written_view : (v : Cursor) (l old : List ℕ) (end kind : ℕ) (payload : List ℕ) → bytes v ≡ take end l
    → position v ≡ 0 → end ≡ 1 + shortest (length payload) + length payload
    → l ≡ (network 1 kind ++ least (length payload) ++ payload) ++ drop end old
    → rest v ≡ network 1 kind ++ least (length payload) ++ payload
written_view v l old end kind payload shown start count e =
    let n = length payload in
    let x = network 1 kind ++ least n ++ payload in
    let long : length x ≡ end =
    omega (
      arith,
      count,
      length-append (network 1 kind ++ least n) payload,
      length-append (network 1 kind) (least n),
      length_network 1 kind,
      length_varint (shortest n) n,
    ) in
    ap (λ k. drop k (bytes v)) start ∙ (shown ∙ (ap (take end) e ∙ take_at x (drop end old) end long))

-- a result whose value is known
pub ok_of : {T E : Type 0} (P : T → Type 0) (r : Result T E) → IsOkAnd r P → IsOk r
ok_of P (Ok x) h = refl
ok_of P (Err e) h = absurd h

pub if_ok : {T E : Type 0} {P : T → Type 0} (Q : T → Type 0) (r : Result T E) → ((x : T) → P x → Q x) → IsOkAnd r P
    → IfOk r Q
if_ok Q (Ok x) f h = f x h
if_ok Q (Err e) f h = tt
