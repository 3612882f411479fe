-- The run of some commands, which was calculated manually.
use Rattle.std.proofs.Common.{[], ◌∷◌, refl}
use Rattle.octets.specs.Bytes.{network}
use Rattle.octets.specs.Varints.{varint}
use Rattle.octets_script.specs.Plays.{ends, Plays}
use Rattle.octets_script.specs.Calls.{PutU16, Rewind, GetU8, PutVarint, Skip, SplitAt, GetBytesU8, SliceLast, Cap, Done}
use Rattle.octets_script.specs.Calls.{Number, Bytes, Two, Short}

-- 258 is written, its second byte read, 37 written and 0x40 written over it, and one byte remains
script-row : Plays (PutU16 258 [] ∷ Rewind 1 ∷ GetU8 ∷ PutVarint 37 (0x40 ∷ []) ∷ Skip 2 ∷ []) (0 ∷ 0 ∷ 0 ∷ 0 ∷ []) 0
    (Done ∷ Done ∷ Number 2 ∷ Done ∷ Short ∷ []) (1 ∷ 2 ∷ 0x40 ∷ 0 ∷ []) 3
unfolding network varint
script-row =
    let l = 1 ∷ 2 ∷ 0 ∷ 0 ∷ [] in let m = 1 ∷ 2 ∷ 0x40 ∷ 0 ∷ [] in (
      ends Done l 2,
      refl,
      refl,
      (
        ends Done l 1,
        refl,
        refl,
        (ends (Number 2) l 2, refl, refl, (ends Done m 3, refl, refl, (ends Short m 3, refl, refl, (refl, refl)))),
      ),
    )

-- the reply has both parts as they were before the write, and each part is overwritten from its start
split-row : Plays (SplitAt 1 (0xaa ∷ []) (0xbb ∷ 0xcc ∷ 0xdd ∷ []) ∷ []) (1 ∷ 2 ∷ 3 ∷ []) 0
    (Two (1 ∷ []) (2 ∷ 3 ∷ []) ∷ []) (0xaa ∷ 0xbb ∷ 0xcc ∷ []) 0
split-row = (ends (Two (1 ∷ []) (2 ∷ 3 ∷ [])) (0xaa ∷ 0xbb ∷ 0xcc ∷ []) 0, refl, refl, (refl, refl))

-- if fewer bytes follow a length than it says, only the length is passed
prefix-row : Plays (GetBytesU8 ∷ Cap ∷ []) (5 ∷ 1 ∷ []) 0 (Short ∷ Number 1 ∷ []) (5 ∷ 1 ∷ []) 1
prefix-row = (ends Short (5 ∷ 1 ∷ []) 1, refl, refl, (ends (Number 1) (5 ∷ 1 ∷ []) 1, refl, refl, (refl, refl)))

-- the last bytes, which can't be lent if fewer remain
last-row : Plays (SliceLast 2 (9 ∷ []) ∷ Skip 2 ∷ SliceLast 2 [] ∷ []) (1 ∷ 2 ∷ 3 ∷ []) 0
    (Bytes (2 ∷ 3 ∷ []) ∷ Done ∷ Short ∷ []) (1 ∷ 9 ∷ 3 ∷ []) 2
last-row = let l = 1 ∷ 9 ∷ 3 ∷ [] in
    (ends (Bytes (2 ∷ 3 ∷ [])) l 0, refl, refl, (ends Done l 2, refl, refl, (ends Short l 2, refl, refl, (refl, refl))))
