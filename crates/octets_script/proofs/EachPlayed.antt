-- How runs are continued.
use Rattle.std.proofs.Common.{◌≡◌, ℕ, ◌+◌, ◌<◌, List, [], ◌∷◌, ◌++◌, length, take, get_or, arith, zero, suc, Bool}
use Rattle.std.proofs.Common.{true, false, drop, refl, sym, subst, ◌∙◌, inl, inr}
use Rattle.std.proofs.Math.Seq.{take-suc}
use Rattle.octets_script.specs.Plays.{ends, Performs, Plays, Outcome, bytes_left, puts_text}
use Rattle.std.proofs.lemmas.Grind.{common_steps}
use Rattle.octets_script.specs.Calls.{Call, Answer, GetVarint, GetVarintShortest, GetBytesVarint, PutHuffman}
use Rattle.octets_script.specs.Calls.{PutHuffmanLower, Decode, Done, Short}
use Rattle.std.specs.Prelude.{nat_le, if◌then◌else◌}
use Rattle.std.proofs.lemmas.List.Elements.{All-nil, All-cons, All-head, All-tail, All-take, All-drop, All-append}
use Rattle.octets_code.proofs.Lowering.{lower_bytes}
use Rattle.octets.specs.Bytes.{AreBytes, splice, over}
use Rattle.octets.proofs.lemmas.Numbers.{are_bytes_network}
use Rattle.octets.proofs.lemmas.Varints.{are_bytes_varint}
use Rattle.octets.specs.Pieces.{kept_length}
use Rattle.octets.proofs.lemmas.Splices.{length_splice}
use Rattle.octets_code.specs.Laws.{EachIsDecided, TextIsText}
use Rattle.octets_code.specs.Texts.{text, lower}
use Rattle.octets_script.specs.Laws.{WritesBytes, EachIsPlayed}
use Rattle.octets_script.proofs.OneOutcome.{each_has_an_outcome, play_laws}

-- one more command
pub plays_more : (cs : List Call) (c : Call) (l : List ℕ) (p : ℕ) (rs : List Answer) (r : Answer) (k : List ℕ) (q : ℕ)
    (m : List ℕ) (n : ℕ)
    → Plays cs l p rs k q → Performs c k q (ends r m n) → Plays (cs ++ c ∷ []) l p (rs ++ r ∷ []) m n
plays_more [] c l p [] r k q m n h g = grind (arith, common_steps)
plays_more (b ∷ cs) c l p (s ∷ rs) r k q m n h g =
    (h.0, h.1, h.2, plays_more cs c h.0.bytes h.0.position rs r k q m n h.3 g)
plays_more _ c l p _ r k q m n h g = absurd h

-- a prefix with one more element
pub take_next : {A : Type 0} (l : List A) (j : ℕ) (x : A) → j < length l → x ≡ get_or l j x
    → take (j + 1) l ≡ take j l ++ x ∷ []
take_next l j x h e = grind (arith, take-suc)

-- On a list of bytes, each list of commands has a run.

abbrev IsByte : ℕ → Type 0
IsByte b = b < 256

spliced-bytes : (l : List ℕ) (i : ℕ) (w : List ℕ) → AreBytes l → AreBytes w → AreBytes (splice l i w)
spliced-bytes [] i w h k = All-nil IsByte
spliced-bytes (x ∷ l) (suc i) w h k =
    All-cons IsByte x (splice l i w) (All-head IsByte x l h) (spliced-bytes l i w (All-tail IsByte x l h) k)
spliced-bytes (x ∷ l) zero [] h k = h
spliced-bytes (x ∷ l) zero (y ∷ w) h k = All-cons IsByte y (splice l zero w) (All-head IsByte y w k)
    (spliced-bytes l zero w (All-tail IsByte x l h) (All-tail IsByte y w k))

over-bytes : (b w : List ℕ) → AreBytes b → AreBytes w → AreBytes (over b w)
over-bytes b w h k = All-append IsByte (take (length b) w) (drop (length w) b) (All-take IsByte (length b) w k)
    (All-drop IsByte (length w) b h)

-- what is left are bytes, as many as before
record Keeps (l : List ℕ) (o : Outcome) : Type 0 where
  are : AreBytes o.bytes
  same : length o.bytes ≡ length l

if_keeps : (l : List ℕ) (t : Bool) (x y : Outcome) → Keeps l x → Keeps l y → Keeps l (if t then x else y)
if_keeps l true x y h k = h
if_keeps l false x y h k = k

same_keeps : (l : List ℕ) (r : Answer) (q : ℕ) → AreBytes l → Keeps l (ends r l q)
same_keeps l r q b = record { are = b; same = refl }

splice_keeps : (l : List ℕ) (r : Answer) (q i : ℕ) (w : List ℕ) → AreBytes l → AreBytes w
    → Keeps l (ends r (splice l i w) q)
splice_keeps l r q i w b h = record { are = spliced-bytes l i w b h; same = length_splice l i w }

twice_keeps : (l : List ℕ) (r : Answer) (q i j : ℕ) (v w : List ℕ) → AreBytes l → AreBytes v → AreBytes w
    → Keeps l (ends r (splice (splice l i v) j w) q)
twice_keeps l r q i j v w b h k =
    record {
      are = spliced-bytes (splice l i v) j w (spliced-bytes l i v b h) k;
      same = length_splice (splice l i v) j w ∙ length_splice l i v;
    }

drop-bytes : (l : List ℕ) (i : ℕ) → AreBytes l → AreBytes (drop i l)
drop-bytes l i h = All-drop IsByte i l h

take-bytes : (l : List ℕ) (i : ℕ) → AreBytes l → AreBytes (take i l)
take-bytes l i h = All-take IsByte i l h

ruleset keeping = (
  if_keeps,
  same_keeps,
  splice_keeps,
  twice_keeps,
  over-bytes,
  drop-bytes,
  take-bytes,
  are_bytes_network,
  are_bytes_varint,
)

module _ (texts : TextIsText) where
  text_keeps : (l : List ℕ) (p : ℕ) (v : List ℕ) → AreBytes l → AreBytes v → Keeps l (puts_text v l p)
  text_keeps l p v b h =
      let t = text v in
      let f = take (kept_length (bytes_left l p) v) t in
      let bytes : AreBytes t = (texts v [] h).0.0 in
      if_keeps l (nat_le (length t) (bytes_left l p)) (ends Done (splice l p t) (p + length t))
      (ends Short (splice l p f) (p + length f))
      (splice_keeps l Done (p + length t) p t b bytes)
      (splice_keeps l Short (p + length f) p f b (take-bytes t (kept_length (bytes_left l p) v) bytes))

  keeps : (c : Call) (l : List ℕ) (p : ℕ) (o : Outcome) → AreBytes l → WritesBytes c → Performs c l p o → Keeps l o
  keeps GetVarint l p o b g h =
      elim h [ inl v ↦ subst (Keeps l) (sym v.3) (search keeping) | inr v ↦ subst (Keeps l) (sym v.1) (search keeping) ]
  keeps GetVarintShortest l p o b g h =
      elim h [ inl v ↦ subst (Keeps l) (sym v.3) (search keeping) | inr v ↦ subst (Keeps l) (sym v.1) (search keeping) ]
  keeps GetBytesVarint l p o b g h =
      elim h [ inl v ↦ subst (Keeps l) (sym v.3) (search keeping) | inr v ↦ subst (Keeps l) (sym v.1) (search keeping) ]
  keeps (PutHuffman v) l p o b g h = subst (Keeps l) (sym h) (text_keeps l p v b g)
  keeps (PutHuffmanLower v) l p o b g h = subst (Keeps l) (sym h) (text_keeps l p (lower v) b (lower_bytes v g))
  keeps (Decode m) l p o b g h =
      elim h [ inl v ↦ subst (Keeps l) (sym v.2) (search keeping) | inr v ↦ subst (Keeps l) (sym v.2) (search keeping) ]
  keeps _ l p o b g h = subst (Keeps l) (sym h) (search keeping)

  -- on a list of bytes, each list of commands that write bytes has a run, which leaves as many bytes
  pub each_is_played : EachIsDecided → EachIsPlayed
  each_is_played d [] l p b g = ([], l, p, (refl, refl), b, refl)
  each_is_played d (c ∷ cs) l p b g =
      let one = each_has_an_outcome d c l p b in
      let kept = keeps c l p one.0 b (All-head WritesBytes c cs g) one.1 in
      let more = each_is_played d cs one.0.bytes one.0.position kept.are (All-tail WritesBytes c cs g) in
      (one.0.reply ∷ more.0, more.1, more.2, (one.0, one.1, refl, more.3), more.4, more.5 ∙ kept.same)

pub ruleset all_play_laws = (play_laws, each_is_played)
