-- as many bits wait as the count says
use Rattle.std.proofs.Common.{◌≡◌, length, ap, sym, ◌∙◌}
use Rattle.octets_code.proofs.BitLemmas.{length-bits_of}
use Rattle.octets.proofs.lemmas.WordOps.{no_others}
use Rattle.octets.proofs.huffman.pending.Pending.bits.Goals as goal

pub returns-clause-no_others : goal.returns-clause-no_others
returns-clause-no_others c =
    let n : length c.args.self.now ≡ c.self.inside.count = ap length (sym c.self.view_is) ∙ length-bits_of _ _ in
    rw n (no_others _ _ c.self.invariant)

pub returns-clause-is : goal.returns-clause-is
returns-clause-is c =
    let n : length c.args.self.now ≡ c.self.inside.count = ap length (sym c.self.view_is) ∙ length-bits_of _ _ in
    rw n c.self.view_is
