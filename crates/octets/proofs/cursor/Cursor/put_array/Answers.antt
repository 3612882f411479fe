use Rattle.std.proofs.Common.{◌≡◌, arith, rules}
use Rattle.std.proofs.lemmas.List.{drop_all}
use Rattle.octets.proofs.lemmas.Splices.{spliced}
use Rattle.octets.proofs.lemmas.Writes.{is_write, keeps_writes}
use Rattle.octets.proofs.cursor.Cursor.put_array.Goals as goal

pub returns-clause-writes : goal.returns-clause-writes
returns-clause-writes g c = let copied : c.put_first.new.to ≡ c.args.v.now = search (rules, drop_all) in
    is_write c.args.self.now _ c.args.v.now (omega arith) (omega arith) (cc (copied))

pub returns-clause-bytes : goal.returns-clause-bytes
returns-clause-bytes g c = let copied : c.put_first.new.to ≡ c.args.v.now = search (rules, drop_all) in
    search (rules, spliced, copied)

pub returns-clause-keeps : goal.returns-clause-keeps
returns-clause-keeps g c = keeps_writes c.args.self.now _ c.args.v.now (returns-clause-writes g c)
