-- Commands and replies as contracts see them, with their bytes as lists.
use Rattle.octets_script.specs.declared.command.Command.{Command}
use Rattle.octets_script.specs.declared.command.Command.TheVariants as C
use Rattle.octets_script.specs.declared.reply.Reply.{Reply}
use Rattle.octets_script.specs.declared.reply.Reply.TheVariants as R
pub use Rattle.octets.specs.Calls.{Call, Answer, GetU8, GetU16, GetU24, GetU32, GetU64, PeekU8, GetVarint}
pub use Rattle.octets.specs.Calls.{GetVarintShortest, GetBytes, PeekBytes, GetBytesU8, GetBytesU16, GetBytesVarint}
pub use Rattle.octets.specs.Calls.{GetBytesMut, PeekBytesMut, PutU8, PutU16, PutU24, PutU32, PutU64, PutVarint}
pub use Rattle.octets.specs.Calls.{PutVarintWithLen, PutBytes, PutHuffman, PutHuffmanLower, Decode, Rewind, Skip}
pub use Rattle.octets.specs.Calls.{Slice, SliceLast, SplitAt, AsMut, Cap, Len, Off, IsEmpty, Buf, ToVec, Done, Number}
pub use Rattle.octets.specs.Calls.{Bytes, Two, Short, Overlong}

-- the call of a command, with its bytes as lists
abbrev pub call_of : Command → Call
call_of C.GetU8 = GetU8
call_of C.GetU16 = GetU16
call_of C.GetU24 = GetU24
call_of C.GetU32 = GetU32
call_of C.GetU64 = GetU64
call_of C.PeekU8 = PeekU8
call_of C.GetVarint = GetVarint
call_of C.GetVarintShortest = GetVarintShortest
call_of (C.GetBytes n) = GetBytes n
call_of (C.PeekBytes n) = PeekBytes n
call_of C.GetBytesU8 = GetBytesU8
call_of C.GetBytesU16 = GetBytesU16
call_of C.GetBytesVarint = GetBytesVarint
call_of (C.GetBytesMut n w) = GetBytesMut n w.items
call_of (C.PeekBytesMut n w) = PeekBytesMut n w.items
call_of (C.PutU8 n w) = PutU8 n w.items
call_of (C.PutU16 n w) = PutU16 n w.items
call_of (C.PutU24 n w) = PutU24 n w.items
call_of (C.PutU32 n w) = PutU32 n w.items
call_of (C.PutU64 n w) = PutU64 n w.items
call_of (C.PutVarint n w) = PutVarint n w.items
call_of (C.PutVarintWithLen n w) = PutVarintWithLen n w.items
call_of (C.PutBytes w) = PutBytes w.items
call_of (C.PutHuffman w) = PutHuffman w.items
call_of (C.PutHuffmanLower w) = PutHuffmanLower w.items
call_of (C.Decode n) = Decode n
call_of (C.Rewind n) = Rewind n
call_of (C.Skip n) = Skip n
call_of (C.Slice n w) = Slice n w.items
call_of (C.SliceLast n w) = SliceLast n w.items
call_of (C.SplitAt n v w) = SplitAt n v.items w.items
call_of (C.AsMut w) = AsMut w.items
call_of C.Cap = Cap
call_of C.Len = Len
call_of C.Off = Off
call_of C.IsEmpty = IsEmpty
call_of C.Buf = Buf
call_of C.ToVec = ToVec

-- what a reply says, with its bytes as lists
abbrev pub answer_of : Reply → Answer
answer_of R.Done = Done
answer_of (R.Number n) = Number n
answer_of (R.Bytes b) = Bytes b.items
answer_of (R.Two b c) = Two b.items c.items
answer_of R.Short = Short
answer_of R.Overlong = Overlong
