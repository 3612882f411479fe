-- What is in the buffer where a varint was written.
use Rattle.std.proofs.Common.{◌≡◌, ℕ, ◌+◌, ◌^◌, ◌<◌, List, [], length, take, drop}
use Rattle.std.proofs.Common.{sym, subst, ap, ◌∙◌}
use Rattle.std.proofs.Common.{Option, Some, None, MatchOption, IsSomeAnd}
use Rattle.octets.specs.Varints.{BeginsVarint, HasNoVarint, shortest, varint}
use Rattle.octets.specs.declared.cursor.buffer.Bytes.{Ghosts}
use Rattle.octets.specs.declared.cursor.Cursor.{Cursor}
use Rattle.octets.specs.Cursor.{bytes, position, rest, Passes, IsUnchanged, Writes}
use Rattle.octets_vectors.specs.declared.laws.varints.ReadBack.{ReadBack}
use Rattle.octets.proofs.CallerLemmas.{begins_one}

module _ {X : Type 0} {g : Ghosts X} where
  -- if the remaining bytes are unchanged, the varint is read
  pub reads_back : (back left new : Cursor X g) (n : ℕ) (r : Option ReadBack)
      → BeginsVarint (rest back) (shortest n) n
      → MatchOption r (HasNoVarint (rest left) × IsUnchanged left new)
      (λ read. BeginsVarint (rest left) read.width read.value × Passes left new read.width)
      → rest left ≡ rest back → IsSomeAnd r (λ read. (read.value ≡ n) × (read.width ≡ shortest n))
  reads_back back left new n (Some read) stands is same =
      let one = begins_one (rest left) read.width read.value (shortest n) n is.0
      (subst (λ l. BeginsVarint l (shortest n) n) (sym same) stands) in (one.1, one.0)
  reads_back back left new n None stands is same =
      absurd (is.0 (shortest n) n (subst (λ l. BeginsVarint l (shortest n) n) (sym same) stands))

  -- if nothing was changed, the same bytes remain
  pub same_rest : (a b : Cursor X g) → IsUnchanged a b → rest b ≡ rest a
  same_rest a b same = ap (λ i. drop i (bytes b)) same.0 ∙ ap (λ c. drop (position a) (g.bytes c)) same.1

  -- what was written, gone back over and passed once more is written
  pub written_again : (old past back left new : Cursor X g) (w : List ℕ) (n : ℕ) → Writes old past w
      → Passes back past n
      → IsUnchanged back left → Passes left new n → Writes old new w
  written_again old past back left new w n wrote goes_back stays passes =
      let same : IsUnchanged past new = (
        passes.0 ∙ (ap (λ i. i + n) stays.0 ∙ sym goes_back.0),
        passes.1 ∙ (stays.1 ∙ sym goes_back.1),
      ) in
      let behind = same_rest past new same in
      record {
        past = same.0 ∙ wrote.past;
        room = wrote.room ∙ ap (λ l. length w + length l) (sym behind);
        before = ap (λ i. take i (bytes new)) same.0
            ∙ (ap (λ c. take (position past) (g.bytes c)) same.1 ∙ wrote.before);
        after = behind ∙ wrote.after;
        same_holder = ap (λ c. g.holding c []) same.1 ∙ wrote.same_holder;
      }

  -- so it is at the position where it was read, and nothing was changed in between
  pub read_again : (old past back left new : Cursor X g) (w : List ℕ) (n v : ℕ) (r : Option ReadBack)
      → Writes old past w → Passes back past n
      → IsUnchanged back left
      → MatchOption r (HasNoVarint (rest left) × IsUnchanged left new)
      (λ read. BeginsVarint (rest left) read.width read.value × Passes left new read.width)
      → IsSomeAnd r (λ read. (read.value ≡ v) × (read.width ≡ n)) → Writes old new w
  read_again old past back left new w n v (Some read) wrote goes_back stays is gives =
      written_again old past back left new w n wrote goes_back stays (subst (Passes left new) gives.1 is.1)
  read_again old past back left new w n v None wrote goes_back stays is gives = absurd gives
