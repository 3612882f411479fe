-- A message that is written before its length.
use Rattle.std.proofs.Common.{◌≡◌, ℕ, ◌+◌, List, [], ◌++◌, take, drop, length, ap, sym, ◌∙◌, refl, arith}
use Rattle.std.proofs.Common.{append_assoc, length-append, length-take, Result, Ok, Err, IfOk, OnOk}
use Rattle.std.proofs.lemmas.List.{drop_at, take_at}
use Rattle.octets.specs.Cursor.{position, passed, rest, Passes, Writes}
use Rattle.octets.specs.declared.cursor.buffer.Bytes.{Ghosts}
use Rattle.octets.specs.declared.cursor.Cursor.{Cursor}

module _ {X : Type 0} {g : Ghosts X} where
  -- Bytes z in the place of the length, and the message m were written. The cursor went back over both, wrote the
  -- length n, and passed the message.
  pub length_last : (a e f h i : Cursor X g) (z n m : List ℕ) → length n ≡ length z → Writes a e (z ++ m)
      → Passes f e (length z + length m) → passed f ≡ take (position f) (passed e)
      → rest f ≡ drop (position f) (passed e) ++ rest e → Writes f h n → Passes h i (length m)
      → passed i ≡ passed h ++ take (length m) (rest h) → Writes a i (n ++ m)
  length_last a e f h i z n m same whole back before there put skip kept =
      let start : position f ≡ position a = omega (arith, whole.past, back.0, length-append z m) in
      let front_length : length (passed a) ≡ position f =
      omega (arith, start, a.within, length-take a.off (g.bytes a.buf)) in
      let front : passed f ≡ passed a =
      before ∙ (ap (take (position f)) whole.before ∙ take_at (passed a) (z ++ m) (position f) front_length) in
      let again : rest f ≡ (z ++ m) ++ rest e = there ∙ ap (λ t. t ++ rest e)
      (ap (drop (position f)) whole.before ∙ drop_at (passed a) (z ++ m) (position f) front_length) in
      let after_length : rest h ≡ m ++ rest e =
      put.after ∙ (ap (drop (length n)) (again ∙ append_assoc z m (rest e))
      ∙ drop_at z (m ++ rest e) (length n) (sym same)) in
      let end : rest i ≡ rest e =
      skip.2 ∙ (ap (drop (length m)) after_length ∙ drop_at m (rest e) (length m) refl) in
      let message : take (length m) (rest h) ≡ m =
      ap (take (length m)) after_length ∙ take_at m (rest e) (length m) refl in
      let lengths : length (z ++ m) ≡ length (n ++ m) =
      omega (arith, same, length-append z m, length-append n m) in record {
        past = omega (arith, skip.0, put.past, start, length-append n m);
        room = omega (arith, whole.room, ap length end, lengths);
        before = kept ∙ (ap (λ t. t ++ take (length m) (rest h)) (put.before ∙ ap (λ t. t ++ n) front)
            ∙ (ap (λ t. (passed a ++ n) ++ t) message ∙ append_assoc (passed a) n m));
        after = end ∙ (whole.after ∙ ap (λ k. drop k (rest a)) lengths);
        same_holder = ap (λ b. g.holding b []) skip.1 ∙ (put.same_holder
            ∙ (sym (ap (λ b. g.holding b []) back.1) ∙ whole.same_holder));
      }

  -- the same if the message may not be passed
  pub length_last_if : {T E : Type 0} (r : Result T E) (a e f h i : Cursor X g) (z n m : List ℕ) → length n ≡ length z
      → Writes a e (z ++ m) → Passes f e (length z + length m) → passed f ≡ take (position f) (passed e)
      → rest f ≡ drop (position f) (passed e) ++ rest e → Writes f h n → OnOk r (Passes h i (length m))
      → OnOk r (passed i ≡ passed h ++ take (length m) (rest h)) → IfOk r (λ _. Writes a i (n ++ m))
  length_last_if (Ok x) a e f h i z n m same whole back before there put skip kept =
      length_last a e f h i z n m same whole back before there put skip kept
  length_last_if (Err x) a e f h i z n m same whole back before there put skip kept = tt
