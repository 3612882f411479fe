-- The line of a command and its words: the first names an entry of the table, and the others are read by the kinds
-- of this entry.
use Rattle.std.proofs.Common.{◌≡◌, ◌↔◌, ℕ, zero, suc, ◌^◌, ◌<◌, ◌≤◌, lit≤, Bool, true, false, ◌&&◌, ◌||◌, nat_lt, eqb}
use Rattle.std.proofs.Common.{List, [], ◌∷◌, length, map, codes, Option, Some, None, Result, Ok, Err, get_or, inl, inr}
use Rattle.std.proofs.Common.{refl, ap, sym, subst, ◌∙◌, arith}
use Rattle.std.specs.Prelude.{⊤}
use Rattle.std.proofs.lemmas.Slice.Eq.{bytes_eq-Decides}
use Rattle.std.proofs.lemmas.Bool.{cases_Bool, and_parts, or_cases, ltb-true}
use Rattle.std.proofs.lemmas.Bool.Decides.{not_from_Decides}
use Rattle.std.specs.Option.{option_map}
use Rattle.std.specs.Str.{bytes_eq, IsUtf8}
use Rattle.std.specs.Fmt.{decimal}
use Rattle.std.specs.List.{All, list_all, slice_split, join_with_byte}
use Rattle.std.specs.Str.Parse.{digits_value}
use Rattle.std.proofs.Math.Decide.{dec_lt, map_dec}
use Rattle.std.proofs.lemmas.Fmt.{decimal_is_IsNumeral}
use Rattle.octets_tool.specs.Requests.{OrRefused}
use Rattle.std.proofs.lemmas.List.Elements.{All-nil, All-cons}
use Rattle.std.proofs.lemmas.List.Splits.{join_with_byte-slice_split}
use Rattle.std.proofs.lemmas.Str.{IsUtf8-from_ascii}
use Rattle.octets_script.specs.Calls.{Call, call_of}
use Rattle.octets_script.specs.declared.command.Command.{Command}
use Rattle.octets_tool.specs.Lines.{hex}
use Rattle.octets_tool.specs.Commands.{words_of, IsLineOf}
use Rattle.octets_tool.specs.Names.{Row, rows, named, Argument, decimal_word, hex_word, Spells, made, command_for}
use Rattle.octets_tool.specs.Names.{AllSpell, AreWordsOf, WordKind, number_word, bytes_word, word_kind, AreWordsBy}
use Rattle.octets_tool.proofs.Cutting.{slice_split-join}
use Rattle.octets_script.proofs.Decisions.{both_decided, AreBytes_decided}
use Rattle.octets_tool.proofs.HexWords.{bytes_of, bytes_of-hex}
use Rattle.octets_tool.proofs.Rows.{of_named, tested, row_made}
use Rattle.octets_tool.proofs.Spelled.{word_kinds, taken_kinds, words_said, said_words}
use Rattle.octets_tool.proofs.NamedRows.{same_kinds, same_kinds-Decides}
use Rattle.octets_tool.proofs.Decimals.{Plain, is_plain, plain_from_test, decimal-plain, hex-plain, free, ascii}

-- a name determines the kinds of the arguments
abbrev wants : Option Row → List WordKind
wants None = []
wants (Some r) = word_kinds r.kinds

wanted_by : (o : Option Row) (xs : List Argument) (ws : List (List ℕ)) (c : Call) → AllSpell xs ws → made o xs ≡ Some c
    → map word_kind xs ≡ wants o
wanted_by o xs ws c h e = let r = row_made o xs c e in taken_kinds r.0.kinds xs r.2 r.3 ∙ ap wants (sym r.1)

-- what a test finds of each row's name and kinds it finds of a name and its arguments
told : (t : List ℕ → List WordKind → Bool) → list_all (λ r. t r.name (word_kinds r.kinds)) rows ≡ true
    → (name : List ℕ) (xs : List Argument) (ws : List (List ℕ)) (c : Call) → AllSpell xs ws
    → command_for name xs ≡ Some c → t name (map word_kind xs) ≡ true
told t all name xs ws c h e =
    let r = row_made (named name rows) xs c e in
    let is = of_named (λ r. t r.name (word_kinds r.kinds) ≡ true) name rows r.0
    (tested (λ r. t r.name (word_kinds r.kinds)) rows all) r.1 in
    rw (taken_kinds r.0.kinds xs r.2 r.3) (rw is.1 at is.0)

-- ---- words spell one command at most, and it is decided whether they spell one

-- arguments of these kinds, as words spell them
abbrev arguments_by : List WordKind → List (List ℕ) → List Argument
arguments_by (number_word ∷ ks) (w ∷ ws) = decimal_word (digits_value 10 w) ∷ arguments_by ks ws
arguments_by (bytes_word ∷ ks) (w ∷ ws) = hex_word (bytes_of w) ∷ arguments_by ks ws
arguments_by _ _ = []

-- the words of arguments give them back
arguments_by-words : (xs : List Argument) (ws : List (List ℕ)) → AllSpell xs ws
    → arguments_by (map word_kind xs) ws ≡ xs
arguments_by-words [] ws h = refl
arguments_by-words (x ∷ xs) [] h = absurd h
arguments_by-words (decimal_word n ∷ xs) (w ∷ ws) h =
    let first : digits_value 10 w ≡ n = rw (h.0.1, (decimal_is_IsNumeral n h.0.0).1) in
    cc (first, arguments_by-words xs ws h.1)
arguments_by-words (hex_word b ∷ xs) (w ∷ ws) h = grind (arith, bytes_of, bytes_of-hex, (arguments_by-words xs ws h.1))

only_arguments : (name : List ℕ) (ws : List (List ℕ)) (xs : List Argument) (c : Call) → AllSpell xs ws
    → command_for name xs ≡ Some c → xs ≡ arguments_by (wants (named name rows)) ws
only_arguments name ws xs c h e = grind (arith, arguments_by-words, arguments_by, wanted_by)

-- words spell one command at most
pub words_once : (words : List (List ℕ)) (c d : Call) → AreWordsOf words c → AreWordsOf words d → d ≡ c
words_once [] c d is other = absurd is
words_once (name ∷ ws) c d is other =
    let same = only_arguments name ws other.0 d other.1 other.2 ∙ sym (only_arguments name ws is.0 c is.1 is.2) in
    let e : Some d ≡ Some c = rw (← other.2, same, is.2) in
    cc

-- whether two texts are equal
pub equal_decided : (x y : List ℕ) → Dec (x ≡ y)
equal_decided x y =
    elim (cases_Bool (bytes_eq x y)) [
      | inl e ↦ yes ((bytes_eq-Decides x y).0 e)
      | inr e ↦ no
          (not_from_Decides (bytes_eq x y) (bytes_eq-Decides x y) e)
    ]

all_decided : (xs : List Argument) (ws : List (List ℕ)) → Dec (AllSpell xs ws)
all_decided [] [] = yes tt
all_decided (decimal_word n ∷ xs) (w ∷ ws) =
    both_decided (both_decided (dec_lt n (2 ^ 64)) (equal_decided w (decimal n))) (all_decided xs ws)
all_decided (hex_word b ∷ xs) (w ∷ ws) =
    both_decided (both_decided (AreBytes_decided b) (equal_decided w (hex b))) (all_decided xs ws)
all_decided _ _ = no (λ h. h)

call_decided : (o : Option Call) → Dec ((c : Call) × (o ≡ Some c))
call_decided None = no (λ h. (let e = h.1 in cc))
call_decided (Some c) = yes (c, refl)

words_decided : (words : List (List ℕ)) → Dec ((c : Call) × AreWordsOf words c)
words_decided [] = no (λ h. h.1)
words_decided (name ∷ ws) =
    let xs = arguments_by (wants (named name rows)) ws in
    map_dec (λ h. (h.1.0, (xs, h.0, h.1.1)))
    (λ h. (let own = only_arguments name ws h.1.0 h.0 h.1.1 h.1.2 in
    (subst (λ ys. AllSpell ys ws) own h.1.1, (h.0, ap (command_for name) (sym own) ∙ h.1.2))))
    (both_decided (all_decided xs ws) (call_decided (command_for name xs)))

-- ---- a line is cut into its words

all_plain : (xs : List Argument) (ws : List (List ℕ)) → AllSpell xs ws → All (λ w. All Plain w) ws
all_plain [] [] h = All-nil (λ w. All Plain w)
all_plain (decimal_word n ∷ xs) (w ∷ ws) h = grind (arith, All-cons, Plain, decimal-plain, (all_plain xs ws h.1))
all_plain (hex_word b ∷ xs) (w ∷ ws) h = grind (arith, All-cons, Plain, hex-plain, (all_plain xs ws h.1))
all_plain _ _ h = absurd h

-- the name is some text with no space, and no other word has one
pub words_plain : (name : List ℕ) (ws : List (List ℕ)) (c : Call) → AreWordsOf (name ∷ ws) c
    → All Plain name × (0 < length name) × All (λ w. All Plain w) ws
words_plain name ws c is =
    let both = and_parts (list_all is_plain name) (nat_lt 0 (length name))
    (told (λ n ks. list_all is_plain n && nat_lt 0 (length n)) refl name is.0 ws c is.1 is.2) in
    (plain_from_test name both.0, ltb-true 0 (length name) both.1, all_plain is.0 ws is.1)

cut_words : (words : List (List ℕ)) (c : Call) → AreWordsOf words c
    → slice_split (λ b. eqb b 32) (join_with_byte 32 words) ≡ words
cut_words [] c is = absurd is
cut_words (name ∷ ws) c is =
    let plain = words_plain name ws c is in
    slice_split-join 32 name ws (free 32 (lit≤ tt) name plain.0)
    (λ k d h. free 32 (lit≤ tt) (get_or ws k d) (plain.2 k d h))

-- a line spells a command exactly where its words do
pub line_words : (l : List ℕ) (c : Call) → AreWordsOf (slice_split (λ b. eqb b 32) l) c ↔ IsLineOf l c
line_words l c = (
  (λ is.
      let says = words_said (slice_split (λ b. eqb b 32) l) c is in
      (says.0, sym (join_with_byte-slice_split 32 l) ∙ ap (join_with_byte 32) says.1)),
  (λ is.
      let words = said_words c is.0 in
      subst (λ ws. AreWordsOf ws c)
      (sym (ap (slice_split (λ b. eqb b 32)) is.1 ∙ cut_words (words_of c) c words)) words),
)

-- a line spells one command at most
pub line_once : (l : List ℕ) (c d : Call) → IsLineOf l c → IsLineOf l d → d ≡ c
line_once l c d is other =
    words_once (slice_split (λ b. eqb b 32) l) c d ((line_words l c).1 is) ((line_words l d).1 other)

-- whether a line spells a command
pub IsLineOf_decided : (l : List ℕ) → Dec ((c : Call) × IsLineOf l c)
IsLineOf_decided l = map_dec (λ h. (h.0, (line_words l h.0).0 h.1)) (λ h. (h.0, (line_words l h.0).1 h.1))
    (words_decided (slice_split (λ b. eqb b 32) l))

-- the first word of a command's line is text
pub first_text : (l n : List ℕ) (more : List (List ℕ)) (c : Call) → slice_split (λ b. eqb b 32) l ≡ n ∷ more
    → IsLineOf l c → IsUtf8 n
first_text l n more c cut is =
    IsUtf8-from_ascii n (ascii n (words_plain n more c (rw cut at ((line_words l c).1 is))).0)

-- ---- reading, by the number of words and by kinds

-- what is found by the words of a line is found by the line
pub by_words : (l : List ℕ) (words : List (List ℕ)) → slice_split (λ b. eqb b 32) l ≡ words → (o : Option Call)
    → ((c : Call) → (o ≡ Some c) ↔ AreWordsOf words c)
    → (c : Call) → (o ≡ Some c) ↔ IsLineOf l c
by_words l words cut o read c = let line = subst (λ ws. AreWordsOf ws c ↔ IsLineOf l c) cut (line_words l c) in
    ((λ e. line.0 ((read c).0 e)), (λ is. (read c).1 (line.1 is)))

-- the same for the result of a reader
pub by_line : {E : Type 0} (r : Result (Option Command) E) (l : List ℕ) (words : List (List ℕ))
    → slice_split (λ b. eqb b 32) l ≡ words
    → OrRefused r (λ o. (c : Call) → (option_map call_of o ≡ Some c) ↔ AreWordsOf words c)
    → OrRefused r (λ o. (c : Call) → (option_map call_of o ≡ Some c) ↔ IsLineOf l c)
by_line (Ok o) l words cut read = by_words l words cut (option_map call_of o) read
by_line (Err e) l words cut refused = refused

-- what is found by words of these kinds is found by the words, where no others spell a command
pub by_kinds : {E : Type 0} (r : Result (Option Command) E) (ks : List WordKind) (words : List (List ℕ))
    → ((c : Call) → AreWordsBy ks words c ↔ AreWordsOf words c)
    → OrRefused r (λ o. (c : Call) → (option_map call_of o ≡ Some c) ↔ AreWordsBy ks words c)
    → OrRefused r (λ o. (c : Call) → (option_map call_of o ≡ Some c) ↔ AreWordsOf words c)
by_kinds (Ok o) ks words same read = grind arith
by_kinds (Err e) ks words same refused = refused

-- what is found for the arguments that words of these kinds spell
pub read_by : (ks : List WordKind) (name : List ℕ) (xs : List Argument) (ws : List (List ℕ)) → map word_kind xs ≡ ks
    → AllSpell xs ws → (o : Option Call) → o ≡ command_for name xs
    → (c : Call) → (o ≡ Some c) ↔ AreWordsBy ks (name ∷ ws) c
read_by ks name xs ws kinds spell o found c = (
  (λ e. (xs, kinds, spell, sym found ∙ e)),
  (λ is.
      let same = sym (arguments_by-words xs ws spell) ∙ ap (λ js. arguments_by js ws) (kinds ∙ sym is.1)
      ∙ arguments_by-words is.0 ws is.2 in
      found ∙ ap (command_for name) same ∙ is.3),
)

-- what words of these kinds spell, each its own
abbrev pub Reads : List WordKind → List (List ℕ) → Type 0
Reads (number_word ∷ ks) (w ∷ ws) = ((n : ℕ) × Spells (decimal_word n) w) × Reads ks ws
Reads (bytes_word ∷ ks) (w ∷ ws) = ((b : List ℕ) × Spells (hex_word b) w) × Reads ks ws
Reads _ _ = ⊤

pub reads : (xs : List Argument) (ws : List (List ℕ)) → AllSpell xs ws → Reads (map word_kind xs) ws
reads [] ws h = tt
reads (x ∷ xs) [] h = absurd h
reads (decimal_word n ∷ xs) (w ∷ ws) h = ((n, h.0), reads xs ws h.1)
reads (hex_word b ∷ xs) (w ∷ ws) h = ((b, h.0), reads xs ws h.1)

-- words of a kind each, which may be those of a command
read_of : (ks : List WordKind) (name : List ℕ) (ws : List (List ℕ)) (c : Call)
    → ((xs : List Argument) → AllSpell xs ws → command_for name xs ≡ Some c → map word_kind xs ≡ ks)
    → AreWordsBy ks (name ∷ ws) c ↔ AreWordsOf (name ∷ ws) c
read_of ks name ws c only = ((λ is. (is.0, is.2, is.3)), (λ is. (is.0, only is.0 is.1 is.2, is.1, is.2)))

-- a name alone spells the command of that name with no arguments
pub words_alone : (name : List ℕ) (o : Option Call) → o ≡ command_for name [] → (c : Call) → (o ≡ Some c)
    ↔ AreWordsOf (name ∷ []) c
words_alone name o found c = ((λ e. ([], tt, sym found ∙ e)), (λ is. found ∙ by is.0 is.1 is.2))
  where
    by : (xs : List Argument) → AllSpell xs [] → command_for name xs ≡ Some c → command_for name [] ≡ Some c
    by [] h e = e
    by (x ∷ xs) h e = absurd h

-- one word is a number where a number is found by the name, and else bytes
pub word_is_number : (name w : List ℕ) (c d : Call) → AreWordsBy (number_word ∷ []) (name ∷ w ∷ []) d
    → AreWordsBy (number_word ∷ []) (name ∷ w ∷ []) c ↔ AreWordsOf (name ∷ w ∷ []) c
word_is_number name w c d own =
    let row = named name rows in
    read_of (number_word ∷ []) name (w ∷ []) c (λ xs h e. wanted_by row xs (w ∷ []) c h e
    ∙ sym (wanted_by row own.0 (w ∷ []) d own.2 own.3) ∙ own.1)

-- where no command is found by the word as a number, it is bytes
pub word_is_bytes : (name w : List ℕ) (c : Call) → (AreWordsBy (number_word ∷ []) (name ∷ w ∷ []) c → ⊥)
    → AreWordsBy (bytes_word ∷ []) (name ∷ w ∷ []) c ↔ AreWordsOf (name ∷ w ∷ []) c
word_is_bytes name w c never = read_of (bytes_word ∷ []) name (w ∷ []) c by
  where
    by : (xs : List Argument) → AllSpell xs (w ∷ []) → command_for name xs ≡ Some c → map word_kind xs ≡ bytes_word ∷ []
    by [] h e = absurd h
    by (x ∷ y ∷ xs) h e = absurd h.1
    by (decimal_word n ∷ []) h e = absurd (never (decimal_word n ∷ [], refl, h, e))
    by (hex_word b ∷ []) h e = refl

-- how many words there are
spell_length : (xs : List Argument) (ws : List (List ℕ)) → AllSpell xs ws → length (map word_kind xs) ≡ length ws
spell_length [] [] h = refl
spell_length (x ∷ xs) (w ∷ ws) h = let more = spell_length xs ws h.1 in omega (arith, more)
spell_length _ _ h = absurd h

-- Two words are a number and bytes. Three are a number and two
-- byte strings where the name is that of a split, and else two
-- numbers and bytes.
abbrev pub wanted : Bool → ℕ → List WordKind
wanted b (suc (suc zero)) = number_word ∷ bytes_word ∷ []
wanted true n = number_word ∷ bytes_word ∷ bytes_word ∷ []
wanted false n = number_word ∷ number_word ∷ bytes_word ∷ []

abbrev as_wanted : List ℕ → List WordKind → Bool
as_wanted name ks =
    nat_lt (length ks) 2 || same_kinds ks (wanted (bytes_eq name (codes "split_at")) (length ks))

-- two words or more after a name spell a command by the wanted kinds alone
pub words_wanted : (name : List ℕ) (b : Bool) (ws : List (List ℕ)) → bytes_eq name (codes "split_at") ≡ b
    → 2 ≤ length ws → (c : Call)
    → AreWordsBy (wanted b (length ws)) (name ∷ ws) c ↔ AreWordsOf (name ∷ ws) c
words_wanted name b ws e long c = read_of (wanted b (length ws)) name ws c by
  where
    by : (xs : List Argument) → AllSpell xs ws → command_for name xs ≡ Some c → map word_kind xs ≡ wanted b (length ws)
    by xs h f =
        let ks = map word_kind xs in
        let n : length ks ≡ length ws = spell_length xs ws h in
        elim (or_cases (nat_lt (length ks) 2) _ (told as_wanted refl name xs ws c h f)) [
          | inl few ↦ absurd (omega (arith, ltb-true (length ks) 2 few, n, long))
          | inr same ↦ (same_kinds-Decides ks _).0 same ∙ ap (λ t. wanted t (length ks)) e
              ∙ ap (wanted b) n
        ]

-- no command has five words
pub words_many : (c : Call) (v w x y z : List ℕ) (more : List (List ℕ)) → AreWordsOf (v ∷ w ∷ x ∷ y ∷ z ∷ more) c → ⊥
words_many c v w x y z more is =
    omega (
      arith,
      ltb-true (length (map word_kind is.0)) 4 (told (λ n ks. nat_lt (length ks) 4) refl v is.0
          (w ∷ x ∷ y ∷ z ∷ more) c is.1 is.2),
      spell_length is.0 (w ∷ x ∷ y ∷ z ∷ more) is.1,
    )

-- at words that spell no arguments of these kinds
pub ruleset unread = (reads)
