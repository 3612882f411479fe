-- The literal that is written.
use Rattle.std.proofs.Common.{◌≡◌, ℕ, ◌+◌, ◌-◌, ◌*◌, ◌^◌, ◌<◌, ◌≤◌, ◌++◌, ◌⊎◌, inl, inr, Bool, true, false, List, []}
use Rattle.std.proofs.Common.{◌∷◌, map, length, take, get_or, refl, sym, subst, ◌∙◌, ap, arith, length-append}
use Rattle.std.proofs.Common.{append_assoc}
use Rattle.std.specs.Char.{to_ascii_lowercase}
use Rattle.std.proofs.lemmas.List.{take_all, take_more, length-take, drop-drop}
use Rattle.std.proofs.Math.Seq.{take-length, take-append_seam}
use Rattle.std.proofs.lemmas.List.Elements.{All-nil, All-cons, All-append}
use Rattle.octets.specs.Encodes.{cased, text_of}
use Rattle.octets_code.specs.Texts.{AreBytes, text, lower}
use Rattle.octets_code.proofs.TextOf.{text_is_text, text-bytes}
use Rattle.octets.proofs.lemmas.CasedCodes.{cased_bytes, length-cased}
use Rattle.octets_code.proofs.Lowering.{length-lower, get_or-lower, lower_byte-std}
use Rattle.std.proofs.lemmas.Bool.{cases_lt}
use Rattle.std.proofs.lemmas.Bool.Decides.{nat_tests}
use Rattle.octets_literal.specs.Integers.{EndsOnce, grouped, groups_of, integer, IsInteger}
use Rattle.octets_literal.specs.Integers.IsInteger.{in_prefix, behind_prefix}
use Rattle.octets_literal.specs.Literals.{flag, canon, AreData, IsLength, IsLiteral, BeginsLiteral}
use Rattle.octets_literal.specs.Laws.{CanonBegins, CanonAlone, CanonIsLiteralOf, AppendixIsRead, AppendixIsWritten}
use Rattle.octets_literal.specs.Laws.{ShortestIsInteger}
use Rattle.octets_literal.proofs.Groups.{one_group, more_groups, groups_spell, groups_least, length-groups}
use Rattle.octets_literal.proofs.Groups.{groups-bytes}

-- the literal of a value whose text is shorter
pub canon-text : (v : List ℕ) → length (text v) < length v → canon v ≡ integer 7 (flag true) (length (text v)) ++ text v
unfolding canon flag
canon-text v h = grind (arith, nat_tests)

-- the literal of a value whose text isn't shorter
pub canon-plain : (v : List ℕ) → length v ≤ length (text v) → canon v ≡ integer 7 (flag false) (length v) ++ v
unfolding canon flag
canon-plain v h = grind (arith, nat_tests)

-- a value that isn't put in lower case stays as it is
pub cased-off : (l : Bool) (v : List ℕ) → l ≡ false → cased l v ≡ v
unfolding cased
cased-off true v e = cc
cased-off false v e = refl

-- one that is put in lower case is lowered
pub cased-on : (l : Bool) (v : List ℕ) → l ≡ true → cased l v ≡ lower v
unfolding cased
cased-on true v e = refl
cased-on false v e = cc

lower-std : (v : List ℕ) → lower v ≡ map to_ascii_lowercase v
unfolding lower
lower-std [] = refl
lower-std (b ∷ v) = grind (arith, lower_byte-std, (lower-std v))

-- bytes in lower case are lowered as std does
pub cased-std : (l : Bool) (v : List ℕ) → l ≡ true → cased l v ≡ map to_ascii_lowercase v
cased-std l v e = cased-on l v e ∙ lower-std v

-- the next byte as std lowers it is the next of the lowered value
pub lower-next : (v : List ℕ) (i x : ℕ) → i < length v → x ≡ to_ascii_lowercase (get_or v i 0)
    → take (i + 1) (lower v) ≡ take i (lower v) ++ (x ∷ [])
lower-next v i x h e =
    let same : get_or (lower v) i 0 ≡ x = get_or-lower v i 0 h ∙ lower_byte-std (get_or v i 0) ∙ sym e in
    take_more (lower v) i 0 (omega (arith, h, length-lower v)) ∙ ap (λ b. take i (lower v) ++ (b ∷ [])) same

-- the literal of a value, in lower case or not, whose text is shorter
pub canon-cased_text : (l : Bool) (v : List ℕ) → length (text_of l v) < length v
    → canon (cased l v) ≡ integer 7 (flag true) (length (text_of l v)) ++ text_of l v
unfolding canon
canon-cased_text l v h = grind (arith, length-cased, canon-text)

-- and of one whose text isn't shorter
pub canon-cased_plain : (l : Bool) (v : List ℕ) → length v ≤ length (text_of l v)
    → canon (cased l v) ≡ integer 7 (flag false) (length v) ++ cased l v
canon-cased_plain l v h = grind (arith, length-cased, canon-plain)

-- a number below a full prefix is written within it
pub shortest-within : (size mark n : ℕ) → n < 2 ^ size - 1 → integer size mark n ≡ (mark * 2 ^ size + n) ∷ []
unfolding integer
shortest-within size mark n h = grind (arith, nat_tests)

-- any other number after a full prefix
pub shortest-full : (size mark n : ℕ) → 2 ^ size - 1 ≤ n
    → integer size mark n ≡ (mark * 2 ^ size + (2 ^ size - 1)) ∷ groups_of 4 (n - (2 ^ size - 1))
unfolding integer
shortest-full size mark n h = grind (arith, nat_tests)

-- what is written is the integer
integer_by : (size mark n : ℕ) → n < 2 ^ size - 1 + 2 ^ 35 → (n < 2 ^ size - 1) ⊎ (2 ^ size - 1 ≤ n)
    → IsInteger size mark n (integer size mark n)
integer_by size mark n h (inl lt) = in_prefix lt (shortest-within size mark n lt)
integer_by size mark n h (inr ge) =
    let full = 2 ^ size - 1 in
    let groups = groups_spell 4 (n - full) (omega (arith, h, ge)) in
    let spelled : n ≡ full + grouped (groups_of 4 (n - full)) = omega (arith, ge, groups.1) in
    behind_prefix groups.0 spelled (shortest-full size mark n ge)

-- what is written of n, where five groups hold what the prefix doesn't, is an integer of n
pub shortest_integer : ShortestIsInteger
shortest_integer size mark n h = integer_by size mark n h (cases_lt n (2 ^ size - 1))

-- a length is written in six bytes at most
pub length-shortest : (mark n : ℕ) → length (integer 7 mark n) ≤ 6
unfolding integer
length-shortest mark n = grind (arith, nat_tests, length-groups)

integer-bytes : (h : Bool) (n : ℕ) → AreBytes (integer 7 (flag h) n)
unfolding integer flag
integer-bytes h n = grind (arith, nat_tests, All-cons, All-nil, groups-bytes)

shortest_length : (h : Bool) (n : ℕ) → n ≤ 4294967295 → IsLength h n (integer 7 (flag h) n)
shortest_length h n w = record {
  is_integer = shortest_integer 7 (flag h) n (omega (arith, w));
  few = length-shortest (flag h) n;
  small = w;
}

literal_by : (h : Bool) (d v t : List ℕ) → t ≡ integer 7 (flag h) (length d) ++ d → length d ≤ 4294967295 → AreBytes d
    → AreBytes v → AreData h d v → IsLiteral t v
literal_by h d v t e w b c x = record {
  huffman = h;
  before = integer 7 (flag h) (length d);
  content = d;
  parts = e;
  bytes = subst AreBytes (sym e)
      (All-append (λ b. b < 256) _ d (integer-bytes h (length d)) b);
  value_bytes = c;
  is_length = shortest_length h (length d) w;
  are_data = x;
}

text_data : (v : List ℕ) → AreData true (text v) v
unfolding AreData
text_data v = text_is_text v

plain_data : (v : List ℕ) → AreData false v v
unfolding AreData
plain_data v = refl

canon_is : (v : List ℕ) → AreBytes v → length v ≤ 4294967295 → IsLiteral (canon v) v
canon_is v b w = grind (arith, cases_lt, literal_by, canon-text, canon-plain, text-bytes, text_data, plain_data)

-- bytes whose first bytes are the literal of a value begin with this literal
pub canon_begins : (l : List ℕ) → CanonBegins l
unfolding CanonBegins BeginsLiteral
canon_begins l v b w e = grind (arith, length-take, canon_is)

-- the same for bytes that are exactly this literal
pub canon_alone : (l : List ℕ) → CanonAlone l
unfolding CanonAlone CanonBegins
canon_alone l v b w e = canon_begins l v b w (ap (take (length (canon v))) e ∙ take-length (canon v))

-- what is written of a value, in lower case or not, is a literal of it to its last byte
pub literal_of_cased : (l : Bool) (v : List ℕ) → AreBytes v → length v ≤ 4294967295 → CanonIsLiteralOf (cased l v)
unfolding CanonAlone
literal_of_cased l v b w = canon_alone _ (cased l v) (cased_bytes l v b) (omega (arith, w, length-cased l v)) refl

-- what is written of a value is a literal of it, whatever follows
pub canon_literal : (v after : List ℕ) → AreBytes v → length v ≤ 4294967295
    → BeginsLiteral (canon v ++ after) (length (canon v)) v
unfolding CanonBegins
canon_literal v after b w = canon_begins (canon v ++ after) v b w (take-append_seam (canon v) after)

-- no integer of n is shorter than the one that is written
pub shortest_least : (size mark n : ℕ) (b : List ℕ) → IsInteger size mark n b → length (integer size mark n) ≤ length b
unfolding integer
shortest_least size mark n b (in_prefix s e) = rw e (grind (arith, nat_tests))
shortest_least size mark n b (behind_prefix {more = more} ends s e) = rw e (grind (arith, nat_tests, groups_least))

-- a literal that is written has at most six bytes more than the value
pub length-canon : (v : List ℕ) → length (canon v) ≤ length v + 6
unfolding canon
length-canon v = grind (arith, nat_tests, length-append, length-shortest)

-- 1337 after a full prefix
groups_of_1337 : EndsOnce (154 ∷ 10 ∷ [])
groups_of_1337 = more_groups 154 (10 ∷ []) (omega arith) (one_group 10 (omega arith))

-- the integers of RFC 7541, Appendix C.1
pub appendix_read : AppendixIsRead
unfolding grouped
appendix_read =
    (λ mark. (in_prefix (omega arith) refl, behind_prefix groups_of_1337 refl refl), in_prefix (omega arith) refl)

-- and these are what is written of the numbers
pub appendix_written : AppendixIsWritten
unfolding integer groups_of
appendix_written = (λ mark. (refl, refl), refl)

-- nothing in either case is nothing
pub cased-none : (l : Bool) (v : List ℕ) → length v ≡ 0 → [] ≡ cased l v
unfolding cased lower
cased-none true [] e = refl
cased-none false [] e = refl
cased-none l (b ∷ v) e = absurd (omega (arith, e))

-- at a writer of lengths
pub ruleset lengths_written = (shortest-within, shortest-full)

-- at one of literals, to a sink and to a cursor
pub ruleset parts_written = (canon-cased_text, canon-cased_plain)

pub ruleset literals_written = (parts_written, length-cased, length-append, append_assoc, drop-drop)

-- at one of plain data
pub ruleset data_written = (cased-none, cased-off, cased-on, lower-next, length-lower, take_all)

pub ruleset copied_cased = (cased-off, cased-std)

-- at the law of the RFC's integers
pub ruleset appendix = (appendix_read, appendix_written)
