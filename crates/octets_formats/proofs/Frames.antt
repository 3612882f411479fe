-- A frame that is read or that was written, and one whose payload is incomplete.
use Rattle.std.proofs.Common.{◌≡◌, ℕ, ◌+◌, ◌<◌, ◌^◌, List, ◌++◌, drop, length, ap, sym, subst, ◌∙◌, arith, refl}
use Rattle.std.proofs.Common.{append_assoc, length-take, length-drop}
use Rattle.std.proofs.lemmas.List.{drop-drop}
use Rattle.octets.specs.Bytes.{part}
use Rattle.octets.specs.Cursor.{bytes, rest, Passes}
use Rattle.octets.specs.Octets.{ReadsPrefixed, RefusesPrefixed, Octets as Cursor}
use Rattle.octets.specs.Octets as Octets
use Rattle.octets.specs.Varints.{BeginsVarint, shortest}
use Rattle.octets.proofs.CallerLemmas.{passes_more, least_part, least_run}
use Rattle.octets_formats.specs.Frames.{frame, BeginsFrame, IsRefusedAt, no_length, no_payload}
use Rattle.octets_formats.specs.Varints.{least}
use Rattle.octets_formats.proofs.Passing.{stays}

-- a type was read, and then a payload after its length: they are a frame
pub frame_read : (start mid new payload : Cursor) (kind : ℕ)
    → ((w : ℕ) × BeginsVarint (rest start) w kind × Passes start mid w)
    → ReadsPrefixed mid new payload → (n : ℕ) × BeginsFrame (rest start) kind (bytes payload) n × Passes start new n
frame_read start mid new payload kind h r =
    let behind = h.2.2 in
    let long : length (bytes payload) ≡ r.len =
    omega (
      arith,
      ap length r.is_view.0,
      length-take r.len (drop r.width (rest mid)),
      length-drop r.width (rest mid),
      r.within,
    ) in
    let is_length = subst (BeginsVarint (drop h.0 (rest start)) r.width) (sym long)
    (subst (λ l. BeginsVarint l r.width r.len) behind r.begins) in
    let begins : BeginsFrame (rest start) kind (bytes payload) (h.0 + (r.width + r.len)) = record {
      width = h.0;
      length_width = r.width;
      is_kind = h.1;
      is_length = is_length;
      is_payload = r.is_view.0 ∙ (ap (λ l. part l r.width r.len) behind
          ∙ ap (part (drop h.0 (rest start)) r.width) (sym long));
      whole = omega (arith, long, r.within, ap length behind);
      takes = omega (arith, long);
    } in
    (h.0 + (r.width + r.len), begins, passes_more start mid new h.0 (r.width + r.len) h.2 r.passes)

-- the bytes that are written for a frame begin with it
pub frame_begins : (l : List ℕ) (kind : ℕ) (payload after : List ℕ) → kind < 2 ^ 62 → length payload < 2 ^ 62
    → l ≡ frame kind payload ++ after → (n : ℕ) × BeginsFrame l kind payload n × (drop n l ≡ after)
frame_begins l kind payload after small short e =
    let w = shortest kind in
    let v = shortest (length payload) in
    let tail = least (length payload) ++ (payload ++ after) in
    let spelled : l ≡ least kind ++ tail = e ∙ (append_assoc (least kind ++ least (length payload)) payload after
    ∙ append_assoc (least kind) (least (length payload)) (payload ++ after)) in
    let first = least_part kind tail small in
    let second = least_run payload after short in
    let behind : drop w l ≡ tail = ap (drop w) spelled ∙ first.2 in
    let begins : BeginsFrame l kind payload (w + (v + length payload)) = record {
      width = w;
      length_width = v;
      is_kind = subst (λ m. BeginsVarint m w kind) (sym spelled) first.1;
      is_length = subst (λ m. BeginsVarint m v (length payload)) (sym behind) second.1;
      is_payload = sym second.2 ∙ ap (λ m. part m v (length payload)) (sym behind);
      whole = omega (arith, second.4, ap length behind);
      takes = refl;
    } in (
      w + (v + length payload),
      begins,
      sym (drop-drop (v + length payload) w l) ∙ (ap (drop (v + length payload)) behind ∙ second.3),
    )

pub payload_refused : (start mid new : Cursor) (kind : ℕ)
    → ((w : ℕ) × BeginsVarint (rest start) w kind × Passes start mid w)
    → RefusesPrefixed mid new → (n : ℕ) × IsRefusedAt (rest start) n × Passes start new n
payload_refused start mid new kind h (Octets.no_length none same) =
    (h.0, no_length h.0 kind h.1 (rw h.2.2 at none), stays start mid new h.0 h.2 same)
payload_refused start mid new kind h (Octets.no_bytes w n begins short passed) =
    let there = h.2.2 in
    let lacking = rw there at short in
    let is_length = rw there at begins in
    (h.0 + w, no_payload h.0 kind w n h.1 is_length lacking, passes_more start mid new h.0 w h.2 passed)
