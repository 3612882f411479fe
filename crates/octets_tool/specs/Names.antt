-- How a command is found by its name: a table of the names, with the command that each makes of the values after
-- it.
use Rattle.std.specs.Prelude.{◌≡◌, ℕ, ◌^◌, ◌<◌, ◌==◌, nat_le, nat_lt, ◌&&◌, ◌||◌, Bool, true, false}
use Rattle.std.specs.Prelude.{if◌then◌else◌, List, [], ◌∷◌, map, ⊤, Option, Some, None, option_map}
use Rattle.std.specs.Str.{bytes_eq}
use Rattle.std.specs.Fmt.{decimal}
use Rattle.octets.specs.Bytes.{AreBytes}
use Rattle.octets_script.specs.Calls.{Call, GetU8, GetU16, GetU24, GetU32, GetU64, PeekU8, GetVarint, GetVarintShortest}
use Rattle.octets_script.specs.Calls.{GetBytes, PeekBytes, GetBytesU8, GetBytesU16, GetBytesVarint, GetBytesMut}
use Rattle.octets_script.specs.Calls.{PeekBytesMut, PutU8, PutU16, PutU24, PutU32, PutU64, PutVarint}
use Rattle.octets_script.specs.Calls.{PutVarintWithLen, PutBytes, PutHuffman, PutHuffmanLower, Decode, Rewind, Skip}
use Rattle.octets_script.specs.Calls.{Slice, SliceLast, SplitAt, AsMut, Cap, Len, Off, IsEmpty, Buf, ToVec}
use Rattle.octets_tool.specs.Limits.{most_count}
use Rattle.octets_tool.specs.Lines.{hex}
use Rattle.octets_tool.specs.Commands.{Kind, count, number, wide, bytes, Value, Values, said}

-- an entry of the table: a name, the kinds of the values after it, and the command that they make
pub record Row : Type 0 where
  pub name : List ℕ
  pub kinds : List Kind
  pub call : Values kinds → Call

-- some value of the kind
abbrev pub blank : (k : Kind) → Value k
blank count = 0
blank (number bits) = 0
blank wide = record { value = 0; width = 0 }
blank bytes = []

-- some values of these kinds
abbrev pub blanks : (ks : List Kind) → Values ks
blanks [] = tt
blanks (k ∷ ks) = (blank k, blanks ks)

-- the entry of a command, under the name that its line says
abbrev pub row : (ks : List Kind) → (Values ks → Call) → Row
row ks f = record { name = (said (f (blanks ks))).name; kinds = ks; call = f }

-- the entries of all commands
abbrev pub rows : List Row
rows =
    row [] (λ v. GetU8)
    ∷ row [] (λ v. GetU16)
    ∷ row [] (λ v. GetU24)
    ∷ row [] (λ v. GetU32)
    ∷ row [] (λ v. GetU64)
    ∷ row [] (λ v. PeekU8)
    ∷ row [] (λ v. GetVarint)
    ∷ row [] (λ v. GetVarintShortest)
    ∷ row [] (λ v. GetBytesU8)
    ∷ row [] (λ v. GetBytesU16)
    ∷ row [] (λ v. GetBytesVarint)
    ∷ row [] (λ v. Cap)
    ∷ row [] (λ v. Len)
    ∷ row [] (λ v. Off)
    ∷ row [] (λ v. IsEmpty)
    ∷ row [] (λ v. Buf)
    ∷ row [] (λ v. ToVec)
    ∷ row (count ∷ []) (λ v. GetBytes v.0)
    ∷ row (count ∷ []) (λ v. PeekBytes v.0)
    ∷ row (count ∷ []) (λ v. Decode v.0)
    ∷ row (count ∷ []) (λ v. Rewind v.0)
    ∷ row (count ∷ []) (λ v. Skip v.0)
    ∷ row (bytes ∷ []) (λ v. PutBytes v.0)
    ∷ row (bytes ∷ []) (λ v. PutHuffman v.0)
    ∷ row (bytes ∷ []) (λ v. PutHuffmanLower v.0)
    ∷ row (bytes ∷ []) (λ v. AsMut v.0)
    ∷ row (count ∷ bytes ∷ []) (λ v. GetBytesMut v.0 v.1.0)
    ∷ row (count ∷ bytes ∷ []) (λ v. PeekBytesMut v.0 v.1.0)
    ∷ row (count ∷ bytes ∷ []) (λ v. Slice v.0 v.1.0)
    ∷ row (count ∷ bytes ∷ []) (λ v. SliceLast v.0 v.1.0)
    ∷ row (number 8 ∷ bytes ∷ []) (λ v. PutU8 v.0 v.1.0)
    ∷ row (number 16 ∷ bytes ∷ []) (λ v. PutU16 v.0 v.1.0)
    ∷ row (number 32 ∷ bytes ∷ []) (λ v. PutU24 v.0 v.1.0)
    ∷ row (number 32 ∷ bytes ∷ []) (λ v. PutU32 v.0 v.1.0)
    ∷ row (number 64 ∷ bytes ∷ []) (λ v. PutU64 v.0 v.1.0)
    ∷ row (number 62 ∷ bytes ∷ []) (λ v. PutVarint v.0 v.1.0)
    ∷ row (wide ∷ bytes ∷ []) (λ v. PutVarintWithLen v.0 v.1.0)
    ∷ row (count ∷ bytes ∷ bytes ∷ []) (λ v. SplitAt v.0 v.1.0 v.1.1.0)
    ∷ []

-- the entry of a name, if there is one
abbrev pub named : List ℕ → List Row → Option Row
named name [] = None
named name (r ∷ rs) = if bytes_eq name r.name then Some r else named name rs

-- an argument, and how its word spells it
pub data Argument : Type 0 where
  decimal_word : ℕ → Argument
  hex_word : List ℕ → Argument

-- the word w spells the argument
abbrev pub Spells : Argument → List ℕ → Type 0
Spells (decimal_word n) w = (n < 2 ^ 64) × (w ≡ decimal n)
Spells (hex_word b) w = AreBytes b × (w ≡ hex b)

-- a varint may have this width, and holds v in it
abbrev pub holds : ℕ → ℕ → Bool
holds w v =
    (w == 1 && nat_lt v (2 ^ 6)) ||
    ((w == 2 && nat_lt v (2 ^ 14)) || ((w == 4 && nat_lt v (2 ^ 30)) || (w == 8 && nat_lt v (2 ^ 62))))

-- the value x and those after it, if there are such values and b holds
abbrev pub before : (b : Bool) {X Y : Type 0} → X → Option Y → Option (X × Y)
before true x None = None
before true x (Some y) = Some (x, y)
before false x o = None

-- the values of these kinds that the arguments have, if the arguments are of these kinds and within the limits
abbrev pub taken : (ks : List Kind) → List Argument → Option (Values ks)
taken [] [] = Some tt
taken (count ∷ ks) (decimal_word n ∷ xs) = before (nat_le n most_count) n (taken ks xs)
taken (number bits ∷ ks) (decimal_word n ∷ xs) = before (nat_lt n (2 ^ bits)) n (taken ks xs)
taken (wide ∷ ks) (decimal_word v ∷ decimal_word w ∷ xs) =
    before (holds w v) (record { value = v; width = w }) (taken ks xs)
taken (bytes ∷ ks) (hex_word b ∷ xs) = before true b (taken ks xs)
taken _ _ = None

-- the command that an entry makes of these arguments, if any
abbrev pub made : Option Row → List Argument → Option Call
made None xs = None
made (Some r) xs = option_map r.call (taken r.kinds xs)

-- the command of this name with these arguments, if any
abbrev pub command_for : List ℕ → List Argument → Option Call
command_for name xs = made (named name rows) xs

-- the words spell the arguments
abbrev pub AllSpell : List Argument → List (List ℕ) → Type 0
AllSpell [] [] = ⊤
AllSpell [] (w ∷ ws) = ⊥
AllSpell (x ∷ xs) [] = ⊥
AllSpell (x ∷ xs) (w ∷ ws) = Spells x w × AllSpell xs ws

-- the words spell the command c: its name, and then its arguments
abbrev pub AreWordsOf : List (List ℕ) → Call → Type 0
AreWordsOf [] c = ⊥
AreWordsOf (name ∷ ws) c = (xs : List Argument) × AllSpell xs ws × (command_for name xs ≡ Some c)

-- the kind of a word: a number, or bytes
pub data WordKind : Type 0 where
  number_word : WordKind
  bytes_word : WordKind

-- the kind of the word of an argument
abbrev pub word_kind : Argument → WordKind
word_kind (decimal_word n) = number_word
word_kind (hex_word b) = bytes_word

-- the words spell the command c by arguments of these kinds
abbrev pub AreWordsBy : List WordKind → List (List ℕ) → Call → Type 0
AreWordsBy ks [] c = ⊥
AreWordsBy ks (name ∷ ws) c = (xs : List Argument) × (map word_kind xs ≡ ks) × AllSpell xs ws
    × (command_for name xs ≡ Some c)
