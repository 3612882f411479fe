-- A list begins with one length at the most, and so with one literal, or has one fault.
use Rattle.std.proofs.Common.{◌≡◌, ℕ, zero, suc, ◌+◌, ◌/◌, ◌%◌, ◌<◌, ◌≤◌, nat_lt, min, ◌⊎◌, inl, inr, Bool, true}
use Rattle.std.proofs.Common.{false, if◌then◌else◌, List, [], ◌∷◌, ◌++◌, length, take, drop, get_or, refl, sym, subst}
use Rattle.std.proofs.Common.{◌∙◌, ap, arith, length-append, length-take, length-drop, take-append-drop}
use Rattle.std.proofs.lemmas.Grind.{common_steps}
use Rattle.std.proofs.lemmas.Bool.Decides.{nat_tests}
use Rattle.std.proofs.lemmas.List.{length-take-le, take_at, drop_at, take-take, drop-take}
use Rattle.std.proofs.lemmas.List.Elements.{All-take}
use Rattle.std.proofs.Math.Seq.{take-length}
use Rattle.octets_code.specs.Texts.{AreBytes}
use Rattle.octets_code.proofs.TextLemmas.{texts_apart}
use Rattle.octets.specs.Bytes.{part}
use Rattle.octets_literal.specs.Integers.{grouped, IsInteger, BeginsInteger}
use Rattle.octets_literal.specs.Integers.IsInteger.{in_prefix, behind_prefix}
use Rattle.octets_literal.specs.Literals.{flag, AreData, IsLength, IsLiteral, BeginsLiteral}
use Rattle.octets_literal.specs.Faults.{BeginsLength, EndsInLength, HasLongLength, LacksData, IsRefused}
use Rattle.octets_literal.specs.declared.error.LiteralError.{LiteralError}
use Rattle.octets_literal.specs.declared.error.LiteralError.TheVariants.{Short, Length, Value, OutOfMemory}
use Rattle.octets_literal.proofs.Groups.{ends, ends_at, ends_past, nothing_taken}

-- how many bytes the integer with a prefix of 7 bits has, with which l begins
width : List ℕ → ℕ
width [] = 1
width (b ∷ l) = if nat_lt (b % 128) 127 then 1 else suc (ends l)

-- and its number
number : List ℕ → ℕ
number [] = 0
number (b ∷ l) = if nat_lt (b % 128) 127 then b % 128 else 127 + grouped (take (ends l) l)

-- an integer of n, by k bytes of l
record Stands (l : List ℕ) (k mark n : ℕ) : Type 0 where
  pub ends : k ≡ width l
  pub spells : n ≡ number l
  pub marked : mark ≡ get_or l 0 0 / 128
  pub some : 1 ≤ k
  pub within : k ≤ length l

stands_by : (l : List ℕ) (k mark n : ℕ) → k ≤ length l → IsInteger 7 mark n (take k l) → Stands l k mark n
unfolding width number
stands_by l zero mark n w (in_prefix s e) = cc
stands_by l zero mark n w (behind_prefix ends s e) = cc
stands_by [] (suc k) mark n w i = absurd (omega arith)
stands_by (b ∷ l) (suc k) mark n w (in_prefix s e) = grind (arith, nat_tests, nothing_taken)
stands_by (b ∷ l) (suc k) mark n w (behind_prefix ends s e) = grind (arith, nat_tests, ends_at)

-- bytes begin with one integer at most, with a prefix of 7 bits
stands : (l : List ℕ) (k mark n : ℕ) → BeginsInteger l k 7 mark n → Stands l k mark n
stands l k mark n b = stands_by l k mark n b.within b.is_integer

one_flag : (g h : Bool) → flag g ≡ flag h → g ≡ h
unfolding flag
one_flag true true e = refl
one_flag true false e = absurd (omega (arith, e))
one_flag false true e = absurd (omega (arith, e))
one_flag false false e = refl

-- a length is an integer, and the flag the bit before its prefix
length_stands : (l : List ℕ) (k : ℕ) (h : Bool) (n : ℕ) → BeginsLength l k h n → Stands l k (flag h) n
length_stands l k h n b = stands_by l k (flag h) n b.within b.is_length.is_integer

-- bytes begin with one length at most
pub one_length : (l : List ℕ) (j k : ℕ) (g h : Bool) (m n : ℕ) → BeginsLength l j g m → BeginsLength l k h n
    → (j ≡ k) × (g ≡ h) × (m ≡ n)
one_length l j k g h m n a b =
    let p = length_stands l j g m a in let q = length_stands l k h n b in
    (cc (p.ends, q.ends), one_flag g h (cc (p.marked, q.marked)), cc (p.spells, q.spells))

-- the fault of bytes that begin with no length that a reader takes, or with a length and fewer data; otherwise
-- Value
pub fault_of : List ℕ → LiteralError
fault_of l =
    if nat_lt (min 6 (length l)) (width l) then (if nat_lt (length l) 6 then Short else Length)
    else (if nat_lt 4294967295 (number l) then Length
    else (if nat_lt (length l) (width l + number l) then Short else Value))

-- of bytes that end within the length
fault-ends : (l : List ℕ) → EndsInLength l → Short ≡ fault_of l
unfolding fault_of width number
fault-ends l (EndsInLength.at_once e) = rw e refl
fault-ends l (EndsInLength.behind_prefix {more = more} e p s g) =
    let past = ends_past more (length more) (omega arith) (rw take-length g) in rw e (grind (arith, nat_tests, past))

-- of a length that is too long
fault-long : (l : List ℕ) → HasLongLength l → Length ≡ fault_of l
unfolding fault_of width number
fault-long l (HasLongLength.goes_on {more = more} e p s g) = rw e (grind (arith, nat_tests, ends_past more 5 s g))
fault-long l (HasLongLength.exceeds {k = k} {mark = mark} {n = n} b few big) =
    grind (arith, nat_tests, stands l k mark n b)

-- of a length with fewer data
fault-lacks : (l : List ℕ) → LacksData l → Short ≡ fault_of l
unfolding fault_of
fault-lacks l r =
    let few = length-take-le r.k l r.begins.within in
    grind (arith, nat_tests, length_stands l r.k r.huffman r.n r.begins, few)

-- and of one with its data
pub fault-holds : (l : List ℕ) (k : ℕ) (h : Bool) (n : ℕ) → BeginsLength l k h n → k + n ≤ length l → Value ≡ fault_of l
unfolding fault_of
fault-holds l k h n b w =
    let few = length-take-le k l b.within in grind (arith, nat_tests, length_stands l k h n b, few)

-- unless an allocation fails, a read of the bytes fails with their fault
pub refused_by : (l : List ℕ) (m : ℕ) (e : LiteralError) → IsRefused l m e → (e ≡ OutOfMemory) ⊎ (e ≡ fault_of l)
unfolding IsRefused
refused_by l m Short (inl r) = inr (fault-ends l r)
refused_by l m Short (inr r) = inr (fault-lacks l r)
refused_by l m Length r = inr (fault-long l r)
refused_by l m Value r = inr (fault-holds l r.k r.huffman r.n r.begins r.holds)
refused_by l m OutOfMemory r = inl refl

-- a literal by its length and its data
pub record Parts (l : List ℕ) (k : ℕ) (v : List ℕ) : Type 0 where
  pub width : ℕ
  pub huffman : Bool
  pub len : ℕ
  pub begins : BeginsLength l width huffman len
  pub whole : width + len ≡ k
  pub are_data : AreData huffman (part l width len) v
  pub bytes : AreBytes v

-- a literal has these parts
pub parts_of : (l : List ℕ) (k : ℕ) (v : List ℕ) → BeginsLiteral l k v → Parts l k v
unfolding BeginsLiteral
parts_of l k v b =
    let i = b.1 in
    let w = length i.before in
    let n = length i.content in
    let whole : w + n ≡ k = sym (length-append i.before i.content) ∙ ap length (sym i.parts) ∙ length-take-le k l b.0 in
    let before : take w l ≡ i.before = sym (take-take w k l (omega (arith, whole))) ∙ ap (take w) i.parts
    ∙ take_at i.before i.content w refl in
    let behind : part l w n ≡ i.content = sym (drop-take w n l) ∙ ap (λ x. drop w (take x l)) whole
    ∙ ap (drop w) i.parts ∙ drop_at i.before i.content w refl in
    record {
      width = w;
      huffman = i.huffman;
      len = n;
      begins = record {
        within = omega (arith, whole, b.0);
        is_length = subst (IsLength i.huffman n) (sym before) i.is_length;
      };
      whole = whole;
      are_data = subst (λ d. AreData i.huffman d v) (sym behind) i.are_data;
      bytes = i.value_bytes;
    }

length-part : (l : List ℕ) (w n : ℕ) → w + n ≤ length l → length (part l w n) ≡ n
length-part l w n h = length-take-le n (drop w l) (omega (arith, h, length-drop w l))

take-parts : (l : List ℕ) (w n : ℕ) → take (w + n) l ≡ take w l ++ part l w n
take-parts l w n = sym (take-append-drop w (take (w + n) l)) ∙ ap (λ x. x ++ drop w (take (w + n) l))
    (take-take w (w + n) l (omega arith)) ∙ ap (λ x. take w l ++ x) (drop-take w n l)

-- a length and data after it that are the data of a value are a literal of it
pub literal_of : (l : List ℕ) (w : ℕ) (h : Bool) (n : ℕ) (v : List ℕ) → AreBytes l → BeginsLength l w h n
    → w + n ≤ length l → AreData h (part l w n) v → AreBytes v → BeginsLiteral l (w + n) v
unfolding BeginsLiteral
literal_of l w h n v bytes b fits d are =
    let long = length-part l w n fits in
    let literal : IsLiteral (take (w + n) l) v = record {
      huffman = h;
      before = take w l;
      content = part l w n;
      parts = take-parts l w n;
      bytes = All-take (λ b. b < 256) (w + n) l bytes;
      value_bytes = are;
      is_length = subst (λ x. IsLength h x (take w l)) (sym long) b.is_length;
      are_data = d;
    } in
    (fits, literal)

one_data : (h : Bool) (d v w : List ℕ) → AreBytes v → AreBytes w → AreData h d v → AreData h d w → v ≡ w
unfolding AreData
one_data true d v w a b e f = texts_apart v w d a b e f
one_data false d v w a b e f = sym e ∙ f

-- the data of a literal follow the length with which its list begins
pub data_there : (l : List ℕ) (k : ℕ) (v : List ℕ) (w : ℕ) (h : Bool) (n : ℕ) → BeginsLiteral l k v
    → BeginsLength l w h n → (w + n ≡ k) × AreData h (part l w n) v × AreBytes v
data_there l k v w h n a b =
    let p = parts_of l k v a in
    let e = one_length l p.width w p.huffman h p.len n p.begins b in
    let same : part l p.width p.len ≡ part l w n = grind (arith, common_steps) in (
      omega (arith, e.0, e.2, p.whole),
      subst (λ x. AreData x (part l w n) v) e.1 (subst (λ d. AreData p.huffman d v) same p.are_data),
      p.bytes,
    )

-- at most one prefix of a list is a literal, and it is a literal of one value
pub one_literal : (l : List ℕ) (j k : ℕ) (v w : List ℕ) → BeginsLiteral l j v → BeginsLiteral l k w → (j ≡ k) × (v ≡ w)
one_literal l j k v w a b =
    let q = parts_of l k w b in
    let p = data_there l j v q.width q.huffman q.len a q.begins in
    (sym p.0 ∙ q.whole, one_data q.huffman _ v w p.2 q.bytes p.1 q.are_data)

integer_some : (mark n : ℕ) (b : List ℕ) → IsInteger 7 mark n b → 1 ≤ length b
integer_some mark n b (in_prefix s e) = rw e (omega arith)
integer_some mark n b (behind_prefix ends s e) = rw e (omega arith)

-- a literal is no longer than the list
pub literal_within : (l : List ℕ) (k : ℕ) (v : List ℕ) → BeginsLiteral l k v → k ≤ length l
unfolding BeginsLiteral
literal_within l k v b = b.0

-- and has a first byte
pub literal_some : (l : List ℕ) (k : ℕ) (v : List ℕ) → BeginsLiteral l k v → 1 ≤ k
unfolding BeginsLiteral
literal_some l k v b = grind (arith, integer_some, length-append, length-take)
