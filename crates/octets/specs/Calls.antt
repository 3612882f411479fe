-- Calls and answers of the model.
use Rattle.std.specs.Prelude.{ℕ, List}

-- a number, and the width of its varint in bytes
pub record WideNumber : Type 0 where
  pub value : ℕ
  pub width : ℕ

-- the call of a command, with its arguments
pub data Call : Type 0 where
  GetU8 : Call
  GetU16 : Call
  GetU24 : Call
  GetU32 : Call
  GetU64 : Call
  PeekU8 : Call
  GetVarint : Call
  GetVarintShortest : Call
  GetBytes : ℕ → Call
  PeekBytes : ℕ → Call
  GetBytesU8 : Call
  GetBytesU16 : Call
  GetBytesVarint : Call
  GetBytesMut : ℕ → List ℕ → Call
  PeekBytesMut : ℕ → List ℕ → Call
  PutU8 : ℕ → List ℕ → Call
  PutU16 : ℕ → List ℕ → Call
  PutU24 : ℕ → List ℕ → Call
  PutU32 : ℕ → List ℕ → Call
  PutU64 : ℕ → List ℕ → Call
  PutVarint : ℕ → List ℕ → Call
  PutVarintWithLen : WideNumber → List ℕ → Call
  PutBytes : List ℕ → Call
  PutHuffman : List ℕ → Call
  PutHuffmanLower : List ℕ → Call
  Decode : ℕ → Call
  Rewind : ℕ → Call
  Skip : ℕ → Call
  Slice : ℕ → List ℕ → Call
  SliceLast : ℕ → List ℕ → Call
  SplitAt : ℕ → List ℕ → List ℕ → Call
  AsMut : List ℕ → Call
  Cap : Call
  Len : Call
  Off : Call
  IsEmpty : Call
  Buf : Call
  ToVec : Call

-- what a reply says
pub data Answer : Type 0 where
  Done : Answer
  Number : ℕ → Answer
  Bytes : List ℕ → Answer
  Two : List ℕ → List ℕ → Answer
  Short : Answer
  Overlong : Answer
