use Rattle.std.proofs.Common.{◌≡◌, arith, rules}
use Rattle.octets.proofs.lemmas.Writes.{is_write, keeps_writes}
use Rattle.octets.proofs.cursor.Cursor.put_in_one_run.Goals as goal

pub returns-clause-writes : goal.returns-clause-writes
returns-clause-writes g c = let copied : c.copy_from_slice.new.self ≡ c.args.v.now = search rules in
    is_write c.args.self.now _ c.args.v.now (omega arith) (omega arith) (cc (copied))

pub returns-clause-keeps : goal.returns-clause-keeps
returns-clause-keeps g c = keeps_writes c.args.self.now _ c.args.v.now (returns-clause-writes g c)
