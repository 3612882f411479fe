use Rattle.octets_code.proofs.SymbolsFit.{symbol_fits}
use Rattle.octets_code.proofs.long_codes.entry_at.Goals as goal

pub returns-clause-byte : goal.returns-clause-byte
returns-clause-byte c =
    rw c.from.ensures ((symbol_fits c.args.ones c.args.more c.requires.few c.requires.five).0)

pub returns-clause-end : goal.returns-clause-end
returns-clause-end c =
    rw c.from.ensures ((symbol_fits c.args.ones c.args.more c.requires.few c.requires.five).1)
