use Rattle.std.proofs.Common.{refl, sym, subst, arith}
use Rattle.octets.specs.Cursor.{Passes}
use Rattle.octets.proofs.CallerLemmas.{begins_width, varint_stands}
use Rattle.octets_vectors.proofs.WrittenVarints.{same_rest, read_again, reads_back}
use Rattle.octets_vectors.proofs.laws.varints.put_varint_meet_and_read.Goals as goal

pub returns-clause-reads : goal.returns-clause-reads
returns-clause-reads g c =
    let back = c.rewind.new.self in let left = c.meet-met.new.arg2 in let past = c.put_as_lent.new.cursor in
    let wrote = c.in_ok-put_as_lent.ensures.writes in
    let goes_back = subst (λ n. Passes back past n) c.varint_len.ensures.shortest c.in_ok-rewind.ensures.goes_back in
    let stands = varint_stands c.args.cursor.now past back c.args.v (let h = c.requires.held in
    omega arith) wrote goes_back in
    let back_again =
    reads_back back left c.next_varint.new.cursor c.args.v c.next_varint.result stands c.next_varint.ensures in
    record {
      past = past;
      back = back;
      left = left;
      writes = wrote;
      goes_back = goes_back;
      named = sym (begins_width _ _ c.args.v stands);
      met = record { shown = _; shows = refl; left = _; met = c.meet-met.ensures; leaves = refl };
      is_read = c.next_varint.ensures;
      reads_back = back_again;
      writes_again = λ stays. read_again c.args.cursor.now past back left c.next_varint.new.cursor _ _ _
          c.next_varint.result wrote goes_back stays c.next_varint.ensures
          (back_again (same_rest back left stays));
    }
