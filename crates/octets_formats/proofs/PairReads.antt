use Rattle.std.proofs.Common.{List, ℕ, ◌++◌}
use Rattle.octets.specs.declared.cursor.Cursor.{Cursor}
use Rattle.octets.specs.declared.cursor.buffer.Bytes.{Ghosts}
use Rattle.octets.specs.Cursor.{Reads}
use Rattle.octets.proofs.CallerLemmas.{reads_more}

module _ {X : Type 0} {g : Ghosts X} where
  -- reading a pair reads both of its numbers
  pub reads_pair : (a b c : Cursor X g) (u w : List ℕ) → Reads a b u → Reads b c w → Reads a c (u ++ w)
  reads_pair a b c u w = reads_more a b c u w
