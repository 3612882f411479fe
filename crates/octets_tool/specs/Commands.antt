-- The lines of the commands of a script: one table of their names, with the kinds of their arguments.
use Rattle.std.specs.Prelude.{◌≡◌, ℕ, ◌*◌, ◌-◌, ◌^◌, ◌<◌, ◌≤◌, List, [], ◌∷◌, ◌++◌, codes, ⊤}
use Rattle.std.specs.List.{join_with_byte}
use Rattle.std.specs.Fmt.{decimal}
use Rattle.octets.specs.Bytes.{AreBytes}
use Rattle.octets.specs.Varints.{IsWidth}
use Rattle.octets_script.specs.Wides.{WideNumber}
use Rattle.octets_script.specs.Calls.{Call, GetU8, GetU16, GetU24, GetU32, GetU64, PeekU8, GetVarint, GetVarintShortest}
use Rattle.octets_script.specs.Calls.{GetBytes, PeekBytes, GetBytesU8, GetBytesU16, GetBytesVarint, GetBytesMut}
use Rattle.octets_script.specs.Calls.{PeekBytesMut, PutU8, PutU16, PutU24, PutU32, PutU64, PutVarint}
use Rattle.octets_script.specs.Calls.{PutVarintWithLen, PutBytes, PutHuffman, PutHuffmanLower, Decode, Rewind, Skip}
use Rattle.octets_script.specs.Calls.{Slice, SliceLast, SplitAt, AsMut, Cap, Len, Off, IsEmpty, Buf, ToVec}
use Rattle.octets_tool.specs.Limits.{most_count}
use Rattle.octets_tool.specs.Lines.{hex}

-- the kind of an argument: a count, position or limit; a number of some bits; a number with its width; or bytes
pub data Kind : Type 0 where
  count : Kind
  number : ℕ → Kind
  wide : Kind
  bytes : Kind

-- the values of a kind
abbrev pub Value : Kind → Type 0
Value count = ℕ
Value (number bits) = ℕ
Value wide = WideNumber
Value bytes = List ℕ

-- a value of each of these kinds, in order
abbrev pub Values : List Kind → Type 0
Values [] = ⊤
Values (k ∷ ks) = Value k × Values ks

-- a name, and the values after it with their kinds
pub record Said : Type 0 where
  pub name : List ℕ
  pub kinds : List Kind
  pub values : Values kinds

-- the name n, and after it the values v of the kinds ks
abbrev pub says : (name : List ℕ) (kinds : List Kind) → Values kinds → Said
says n ks v = record { name = n; kinds = ks; values = v }

-- the name and the values in the line of a command
abbrev pub said : Call → Said
said GetU8 = says (codes "get_u8") [] tt
said GetU16 = says (codes "get_u16") [] tt
said GetU24 = says (codes "get_u24") [] tt
said GetU32 = says (codes "get_u32") [] tt
said GetU64 = says (codes "get_u64") [] tt
said PeekU8 = says (codes "peek_u8") [] tt
said GetVarint = says (codes "get_varint") [] tt
said GetVarintShortest = says (codes "get_varint_shortest") [] tt
said GetBytesU8 = says (codes "get_bytes_with_u8_length") [] tt
said GetBytesU16 = says (codes "get_bytes_with_u16_length") [] tt
said GetBytesVarint = says (codes "get_bytes_with_varint_length") [] tt
said Cap = says (codes "cap") [] tt
said Len = says (codes "len") [] tt
said Off = says (codes "off") [] tt
said IsEmpty = says (codes "is_empty") [] tt
said Buf = says (codes "buf") [] tt
said ToVec = says (codes "to_vec") [] tt
said (GetBytes n) = says (codes "get_bytes") (count ∷ []) (n, tt)
said (PeekBytes n) = says (codes "peek_bytes") (count ∷ []) (n, tt)
said (Decode n) = says (codes "decode") (count ∷ []) (n, tt)
said (Rewind n) = says (codes "rewind") (count ∷ []) (n, tt)
said (Skip n) = says (codes "skip") (count ∷ []) (n, tt)
said (PutBytes w) = says (codes "put_bytes") (bytes ∷ []) (w, tt)
said (PutHuffman w) = says (codes "put_huffman") (bytes ∷ []) (w, tt)
said (PutHuffmanLower w) = says (codes "put_huffman_lower") (bytes ∷ []) (w, tt)
said (AsMut w) = says (codes "as_mut") (bytes ∷ []) (w, tt)
said (GetBytesMut n w) = says (codes "get_bytes_mut") (count ∷ bytes ∷ []) (n, (w, tt))
said (PeekBytesMut n w) = says (codes "peek_bytes_mut") (count ∷ bytes ∷ []) (n, (w, tt))
said (Slice n w) = says (codes "slice") (count ∷ bytes ∷ []) (n, (w, tt))
said (SliceLast n w) = says (codes "slice_last") (count ∷ bytes ∷ []) (n, (w, tt))
said (PutU8 v w) = says (codes "put_u8") (number 8 ∷ bytes ∷ []) (v, (w, tt))
said (PutU16 v w) = says (codes "put_u16") (number 16 ∷ bytes ∷ []) (v, (w, tt))
said (PutU24 v w) = says (codes "put_u24") (number 32 ∷ bytes ∷ []) (v, (w, tt))
said (PutU32 v w) = says (codes "put_u32") (number 32 ∷ bytes ∷ []) (v, (w, tt))
said (PutU64 v w) = says (codes "put_u64") (number 64 ∷ bytes ∷ []) (v, (w, tt))
said (PutVarint v w) = says (codes "put_varint") (number 62 ∷ bytes ∷ []) (v, (w, tt))
said (PutVarintWithLen v w) = says (codes "put_varint_with_len") (wide ∷ bytes ∷ []) (v, (w, tt))
said (SplitAt n v w) = says (codes "split_at") (count ∷ bytes ∷ bytes ∷ []) (n, (v, (w, tt)))

-- a value is within the limits of its kind
abbrev pub IsWithin : (k : Kind) → Value k → Type 0
IsWithin count n = n ≤ most_count
IsWithin (number bits) n = n < 2 ^ bits
IsWithin wide v = IsWidth v.width × (v.value < 2 ^ (8 * v.width - 2))
IsWithin bytes b = AreBytes b

-- each value is within the limits of its kind
abbrev pub AreWithin : (ks : List Kind) → Values ks → Type 0
AreWithin [] v = ⊤
AreWithin (k ∷ ks) v = IsWithin k v.0 × AreWithin ks v.1

-- the words of a value
abbrev pub value_words : (k : Kind) → Value k → List (List ℕ)
value_words count n = decimal n ∷ []
value_words (number bits) n = decimal n ∷ []
value_words wide v = decimal v.value ∷ decimal v.width ∷ []
value_words bytes b = hex b ∷ []

-- the words of all these values, in order
abbrev pub values_words : (ks : List Kind) → Values ks → List (List ℕ)
values_words [] v = []
values_words (k ∷ ks) v = value_words k v.0 ++ values_words ks v.1

-- a line may spell the command: its values are within the limits of their kinds
abbrev pub MayBeSpelled : Call → Type 0
MayBeSpelled c = AreWithin (said c).kinds (said c).values

-- the words of a command: its name, and the words of its values
abbrev pub words_of : Call → List (List ℕ)
words_of c = (said c).name ∷ values_words (said c).kinds (said c).values

-- the line of a command: its words, with one space between each two
abbrev pub spelled : Call → List ℕ
spelled c = join_with_byte 32 (words_of c)

-- the line spells the command c
abbrev pub IsLineOf : List ℕ → Call → Type 0
IsLineOf l c = MayBeSpelled c × (l ≡ spelled c)
