-- A command and its line: what the line of a command says is
-- read as that command, and what is read is what its line says.
use Rattle.std.proofs.Common.{◌≡◌, ℕ, ◌*◌, ◌-◌, ◌^◌, ◌<◌, Bool, true, ◌&&◌, nat_le, nat_lt, List, [], ◌∷◌, map}
use Rattle.std.proofs.Common.{Option, Some, refl, ap, sym, subst, ◌∙◌, arith}
use Rattle.std.specs.List.{AllByRecursion}
use Rattle.std.specs.Option.{option_map}
use Rattle.std.proofs.Math.Pow.{pow_mono}
use Rattle.std.proofs.lemmas.Grind.{common_steps}
use Rattle.std.proofs.lemmas.Bool.{and_parts, ltb-true, leb-true, le-leb, lt-ltb}
use Rattle.octets.specs.Varints.{IsWidth}
use Rattle.octets_script.specs.Laws.{WritesBytes}
use Rattle.octets_script.specs.Calls.{Call, GetU8}
use Rattle.octets_tool.specs.Limits.{most_count}
use Rattle.octets_tool.specs.Commands.{Kind, count, number, wide, bytes, Values, Said, says, said, AreWithin}
use Rattle.octets_tool.specs.Commands.{values_words, MayBeSpelled, words_of}
use Rattle.octets_tool.specs.Names.{Row, rows, named, Argument, decimal_word, hex_word, holds, before, taken, made}
use Rattle.octets_tool.specs.Names.{AllSpell, AreWordsOf, WordKind, number_word, bytes_word, word_kind}
use Rattle.octets_tool.proofs.Rows.{of_named, tested, row_made, width_holds, holds_width}

-- ---- values as arguments

-- the arguments that values of these kinds are
abbrev pub arguments : (ks : List Kind) → Values ks → List Argument
arguments [] v = []
arguments (count ∷ ks) v = decimal_word v.0 ∷ arguments ks v.1
arguments (number bits ∷ ks) v = decimal_word v.0 ∷ arguments ks v.1
arguments (wide ∷ ks) v = decimal_word v.0.value ∷ decimal_word v.0.width ∷ arguments ks v.1
arguments (bytes ∷ ks) v = hex_word v.0 ∷ arguments ks v.1

-- numbers that a word may spell
abbrev fit : List Kind → Bool
fit [] = true
fit (number bits ∷ ks) = nat_le bits 64 && fit ks
fit (k ∷ ks) = fit ks

width_fits : (w v : ℕ) → IsWidth w → v < 2 ^ (8 * w - 2) → (v < 2 ^ 64) × (w < 2 ^ 64)
width_fits w v is small = (grind arith, grind arith)

taken_before : {X Y : Type 0} (b : Bool) (x : X) (o : Option Y) (y : Y) → b ≡ true → o ≡ Some y
    → before b x o ≡ Some (x, y)
taken_before b x o y is e = rw (is, e)

-- values within the limits are spelled by their words, and are what the words give
taken_within : (ks : List Kind) (v : Values ks) → fit ks ≡ true → AreWithin ks v
    → AllSpell (arguments ks v) (values_words ks v) × (taken ks (arguments ks v) ≡ Some v)
taken_within [] v f h = (tt, refl)
taken_within (count ∷ ks) v f h = grind (arith, taken_before, le-leb, (taken_within ks v.1 f h.1))
taken_within (number bits ∷ ks) v f h =
    let both = and_parts (nat_le bits 64) (fit ks) f in
    let more = taken_within ks v.1 both.1 h.1 in (
      ((omega (arith, h.0, pow_mono {i = bits} {j = 64} (leb-true bits 64 both.0)), refl), more.0),
      taken_before _ v.0 _ v.1 (lt-ltb v.0 (2 ^ bits) h.0) more.1,
    )
taken_within (wide ∷ ks) v f h = grind (arith, width_fits, taken_before, width_holds, (taken_within ks v.1 f h.1))
taken_within (bytes ∷ ks) v f h = grind (arith, taken_before, (taken_within ks v.1 f h.1))

-- ---- arguments as values

-- the kinds of the words of such values
abbrev pub word_kinds : List Kind → List WordKind
word_kinds [] = []
word_kinds (count ∷ ks) = number_word ∷ word_kinds ks
word_kinds (number bits ∷ ks) = number_word ∷ word_kinds ks
word_kinds (wide ∷ ks) = number_word ∷ number_word ∷ word_kinds ks
word_kinds (bytes ∷ ks) = bytes_word ∷ word_kinds ks

pub before_pair : {X Y : Type 0} (b : Bool) (x : X) (o : Option Y) (p : X × Y) → before b x o ≡ Some p
    → (b ≡ true) × (p.0 ≡ x) × (o ≡ Some p.1)
before_pair true x (Some y) p e = grind (arith, common_steps)
before_pair _ x _ p e = cc

-- the values of words are of these kinds
pub taken_kinds : (ks : List Kind) (xs : List Argument) (v : Values ks) → taken ks xs ≡ Some v
    → map word_kind xs ≡ word_kinds ks
taken_kinds [] [] v e = refl
taken_kinds (count ∷ ks) (decimal_word n ∷ xs) v e =
    ap (λ l. number_word ∷ l) (taken_kinds ks xs v.1 (before_pair (nat_le n most_count) n (taken ks xs) v e).2)
taken_kinds (number bits ∷ ks) (decimal_word n ∷ xs) v e =
    ap (λ l. number_word ∷ l) (taken_kinds ks xs v.1 (before_pair (nat_lt n (2 ^ bits)) n (taken ks xs) v e).2)
taken_kinds (wide ∷ ks) (decimal_word n ∷ decimal_word k ∷ xs) v e =
    ap (λ l. number_word ∷ number_word ∷ l) (taken_kinds ks xs v.1 (before_pair (holds k n) _ (taken ks xs) v e).2)
taken_kinds (bytes ∷ ks) (hex_word b ∷ xs) v e =
    ap (λ l. bytes_word ∷ l) (taken_kinds ks xs v.1 (before_pair true b (taken ks xs) v e).2)
taken_kinds _ _ v e = cc

-- it is within the limits, and has these words
taken_says : (ks : List Kind) (xs : List Argument) (ws : List (List ℕ)) (v : Values ks) → AllSpell xs ws
    → taken ks xs ≡ Some v → AreWithin ks v × (ws ≡ values_words ks v)
taken_says [] [] [] v h e = (tt, refl)
taken_says (count ∷ ks) (decimal_word n ∷ xs) (w ∷ ws) v h e =
    let pair = before_pair (nat_le n most_count) n (taken ks xs) v e in
    grind (arith, leb-true, (taken_says ks xs ws v.1 h.1 pair.2))
taken_says (number bits ∷ ks) (decimal_word n ∷ xs) (w ∷ ws) v h e =
    let pair = before_pair (nat_lt n (2 ^ bits)) n (taken ks xs) v e in
    grind (arith, ltb-true, (taken_says ks xs ws v.1 h.1 pair.2))
taken_says (wide ∷ ks) (decimal_word n ∷ decimal_word k ∷ xs) (w ∷ u ∷ ws) v h e =
    let pair = before_pair (holds k n) (record { value = n; width = k }) (taken ks xs) v e in
    grind (arith, holds_width, (taken_says ks xs ws v.1 h.1.1 pair.2))
taken_says (bytes ∷ ks) (hex_word b ∷ xs) (w ∷ ws) v h e =
    let pair = before_pair true b (taken ks xs) v e in grind (arith, (taken_says ks xs ws v.1 h.1 pair.2))
taken_says _ (x ∷ xs) [] v h e = absurd h
taken_says _ (x ∷ y ∷ xs) (w ∷ []) v h e = absurd h.1
taken_says _ [] (w ∷ ws) v h e = absurd h
taken_says _ _ _ v h e = cc

-- ---- the entries say what the lines of their commands say

abbrev Tells : Row → Type 0
Tells r = (v : Values r.kinds) → said (r.call v) ≡ says r.name r.kinds v

rows_tell : AllByRecursion Tells rows
rows_tell = search [] depth 100

-- these words are what is said within the limits
abbrev Spells_by : List (List ℕ) → Said → Type 0
Spells_by words s = AreWithin s.kinds s.values × (words ≡ s.name ∷ values_words s.kinds s.values)

-- what is read is what the command's line says
pub words_said : (words : List (List ℕ)) (c : Call) → AreWordsOf words c → MayBeSpelled c × (words ≡ words_of c)
words_said [] c is = absurd is
words_said (name ∷ ws) c is =
    let made = row_made (named name rows) is.0 c is.2 in
    let r = made.0 in
    let tells = of_named Tells name rows r rows_tell made.1 in
    let takes = taken_says r.kinds is.0 ws made.2 is.1 made.3 in
    let own : Spells_by (name ∷ ws) (says r.name r.kinds made.2) = (takes.0, cc (tells.1, takes.1)) in
    subst (λ d. Spells_by (name ∷ ws) (said d)) made.4 (subst (Spells_by (name ∷ ws)) (sym (tells.0 made.2)) own)

-- ---- what the line of a command says is read as that command

-- the row that a command is found by
record Found (c : Call) : Type 0 where
  call : Values (said c).kinds → Call
  is_row : named (said c).name rows ≡ Some (record { name = (said c).name; kinds = (said c).kinds; call = call })
  makes : call (said c).values ≡ c

found : (c : Call) → Found c
found GetU8 = record { call = _; is_row = refl; makes = refl }
found _ = record { call = _; is_row = refl; makes = refl }

-- the words of a command that may be spelled are read as it
pub said_words : (c : Call) → MayBeSpelled c → AreWordsOf (words_of c) c
said_words c h =
    let f = found c in
    let xs = arguments (said c).kinds (said c).values in
    let fits =
    (of_named (λ r. fit r.kinds ≡ true) (said c).name rows _ (tested (λ r. fit r.kinds) rows refl) f.is_row).0 in
    let takes = taken_within (said c).kinds (said c).values fits h in
    (xs, takes.0, ap (λ o. made o xs) f.is_row ∙ ap (option_map f.call) takes.1 ∙ ap Some f.makes)

-- what a command that may be spelled writes are bytes
pub writes_bytes : (c : Call) → MayBeSpelled c → WritesBytes c
writes_bytes GetU8 h = tt
writes_bytes _ h = search
