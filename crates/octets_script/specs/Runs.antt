-- What a command does to a cursor.
use Rattle.std.specs.Prelude.{◌≡◌}
use Rattle.octets.specs.Cursor.{bytes, position}
use Rattle.octets.specs.Slices.{reference}
use Rattle.octets.specs.Loans.{SliceCursor}
use Rattle.octets_script.specs.Calls.{Call, Answer, answer_of}
use Rattle.octets_script.specs.declared.reply.Reply.{Reply}
use Rattle.octets_script.specs.Plays.{Performs, NeedsRoom, ends}

-- the reply to the call c is a, and the call changed the cursor old to new, over the same slice
abbrev pub PerformsAs : Call → SliceCursor → Answer → SliceCursor → Type 0
PerformsAs c old a new = Performs c (bytes old) (position old) (ends a (bytes new) (position new))
    × (reference new ≡ reference old)

-- the same for a reply of the program
abbrev pub AnswersLeaving : Call → SliceCursor → Reply → SliceCursor → Type 0
AnswersLeaving c old r new = PerformsAs c old (answer_of r) new

-- the reply to the call c is r, and the cursor is unchanged
abbrev pub AnswersUnmoved : Call → SliceCursor → Reply → Type 0
AnswersUnmoved c s r = Performs c (bytes s) (position s) (ends (answer_of r) (bytes s) (position s))

-- the cursor is unchanged: it has the same bytes and the same position, over the same slice
abbrev pub SameCursor : SliceCursor → SliceCursor → Type 0
SameCursor old new = (bytes new ≡ bytes old) × (position new ≡ position old) × (reference new ≡ reference old)

-- the memory that c needs couldn't be allocated, and the cursor is unchanged
abbrev pub RefusedForMemory : Call → SliceCursor → SliceCursor → Type 0
RefusedForMemory c old new = SameCursor old new × NeedsRoom c (bytes old) (position old)
