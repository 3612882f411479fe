-- A command by its name: the row of that name makes it, and under a name of no such row there is none.
use Rattle.std.proofs.Common.{◌≡◌, ℕ, Bool, true, false, if◌then◌else◌, List, [], ◌∷◌, map, Option}
use Rattle.std.proofs.Common.{None, refl, sym, arith}
use Rattle.std.specs.Prelude.{⊤}
use Rattle.std.specs.Bool.{Decides}
use Rattle.std.specs.Cmp.Lexicographic.{pointwise}
use Rattle.std.proofs.lemmas.Slice.Eq.{slice_eq-Decides, bytes_eq-Decides}
use Rattle.octets_script.specs.Calls.{Call}
use Rattle.octets_tool.specs.Names.{Row, rows, named, Argument, made, command_for}
use Rattle.octets_tool.specs.Names.{WordKind, number_word, bytes_word, word_kind}
use Rattle.octets_tool.proofs.Spelled.{word_kinds, taken_kinds}

-- what is found by a name is what is found by the text that it is
pub found : (xs : List Argument) {name text : List ℕ} {o : Option Call} → name ≡ text → command_for text xs ≡ o
    → o ≡ command_for name xs
found xs is e = rw (← e, ← is)

-- whether two kinds are one
abbrev same_kind : WordKind → WordKind → Bool
same_kind number_word number_word = true
same_kind bytes_word bytes_word = true
same_kind _ _ = false

same_kind-Decides : (j k : WordKind) → Decides (same_kind j k) (j ≡ k)
same_kind-Decides number_word number_word = ((λ t. refl), (λ e. refl))
same_kind-Decides bytes_word bytes_word = ((λ t. refl), (λ e. refl))
same_kind-Decides number_word bytes_word = ((λ t. cc), (λ e. cc))
same_kind-Decides bytes_word number_word = ((λ t. cc), (λ e. cc))

-- whether the kinds are the same
abbrev pub same_kinds : List WordKind → List WordKind → Bool
same_kinds js ks = pointwise same_kind js ks

pub same_kinds-Decides : (js ks : List WordKind) → Decides (same_kinds js ks) (js ≡ ks)
same_kinds-Decides js ks = slice_eq-Decides same_kind-Decides js ks (same_kinds js ks) refl

-- the names of the entries that take words of these kinds
abbrev pub names_by : List WordKind → List Row → List (List ℕ)
names_by ks [] = []
names_by ks (r ∷ rs) = if same_kinds ks (word_kinds r.kinds) then r.name ∷ names_by ks rs else names_by ks rs

-- the name is none of these
abbrev pub IsNone : List ℕ → List (List ℕ) → Type 0
IsNone name [] = ⊤
IsNone name (n ∷ ns) = (name ≡ n → ⊥) × IsNone name ns

none_behind : (name n : List ℕ) (ns : List (List ℕ)) (b : Bool) → IsNone name (if b then n ∷ ns else ns)
    → IsNone name ns
none_behind name n ns true h = h.1
none_behind name n ns false h = h

none_at : (name : List ℕ) (xs : List Argument) (r : Row) (rs : List Row) (ns : List (List ℕ))
    → IsNone name (if same_kinds (map word_kind xs) (word_kinds r.kinds) then r.name ∷ ns else ns)
    → made (named name rs) xs ≡ None → made (named name (r ∷ rs)) xs ≡ None
none_at name xs r rs ns h e = grind (arith, bytes_eq-Decides, taken_kinds, same_kinds-Decides)

none_among : (name : List ℕ) (xs : List Argument) (rs : List Row) → IsNone name (names_by (map word_kind xs) rs)
    → made (named name rs) xs ≡ None
none_among name xs [] h = refl
none_among name xs (r ∷ rs) h = none_at name xs r rs _ h (none_among name xs rs (none_behind name r.name _ _ h))

-- a name of no entry that takes such words is no command
pub none_found : (name : List ℕ) (xs : List Argument) → IsNone name (names_by (map word_kind xs) rows)
    → None ≡ command_for name xs
none_found name xs h = sym (none_among name xs rows h)
