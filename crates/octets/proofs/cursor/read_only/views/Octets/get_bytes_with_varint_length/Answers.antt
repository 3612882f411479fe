-- If the length is incomplete, or fewer bytes follow than it says,
-- there is no complete run. Otherwise the two calls have read it.
use Rattle.std.proofs.Common.{arith, length-drop, rules}
use Rattle.octets.specs.Cursor.{rest}
use Rattle.octets.specs.Octets.RefusesPrefixed.{no_bytes}
use Rattle.octets.proofs.CallerLemmas.{reads_run, reads_varint}
use Rattle.octets.proofs.lemmas.Outcomes.{prefixed_by_varint, read_prefixed, not_prefixed, none_prefixed, err_iff}
use Rattle.octets.proofs.lemmas.Performs.{after_varint, short_after_varint, no_varint}
use Rattle.octets.proofs.cursor.read_only.views.Octets.get_bytes_with_varint_length.Goals as goal

pub returns-in_err-len-clause-fits : goal.returns-in_err-len-clause-fits
returns-in_err-len-clause-fits c = none_prefixed c.from_residual.result _ (search rules) c.in_err-len.ensures.none

pub returns-then-len-cap-clause-fits : goal.returns-then-len-cap-clause-fits
returns-then-len-cap-clause-fits c = let read = c.in_ok-len.ensures.value in
    err_iff (not_prefixed (rest c.args.self.now) read.0 c.in_ok-len.len read.1 (grind (arith, length-drop)))

pub returns-then-len-cap-clause-refused : goal.returns-then-len-cap-clause-refused
returns-then-len-cap-clause-refused c = let read = c.in_ok-len.ensures.value in
    no_bytes _ _ read.1 (grind (arith, length-drop)) read.2

pub returns-in_err-len-clause-one : goal.returns-in_err-len-clause-one
returns-in_err-len-clause-one c w n v = absurd (c.in_err-len.ensures.none w n v)

pub returns-then-len-cap-clause-one : goal.returns-then-len-cap-clause-one
returns-then-len-cap-clause-one c w n v =
    let read = c.in_ok-len.ensures.one w n v in (err_iff (grind (arith, length-drop)), tt, tt, read.1)

pub returns-clause-one : goal.returns-clause-one
returns-clause-one c w n v =
    let read = c.in_ok-len.ensures.value in let run = c.get_bytes.ensures in
    let p = prefixed_by_varint c.args.self.now c.get_varint.new.self c.get_bytes.new.self c.get_bytes.result read.0
    c.in_ok-len.len read.1 read.2 (grind arith) run.fits run.view (run.passes, run.refused) in
    let one = p.4 w n v in let moved = p.0.0 w n v in (one.0, one.1, moved.0, moved.1)

pub returns-clause-spelled : goal.returns-clause-spelled
returns-clause-spelled c =
    let old = c.args.self.now in let mid = c.get_varint.new.self in let len = c.in_ok-len.ensures.value in
    let run = c.get_bytes.ensures in
    let read = reads_varint old mid len.0 c.in_ok-len.len len.1 len.2 in
    reads_run old mid c.get_bytes.new.self c.get_bytes.result len.0 c.in_ok-len.len len.1 read run.fits
    run.view run.spelled

pub returns-clause-reads : goal.returns-clause-reads
returns-clause-reads c =
    let read = c.in_ok-len.ensures.value in let run = c.get_bytes.ensures in
    read_prefixed c.args.self.now c.get_varint.new.self c.get_bytes.new.self c.get_bytes.result read.0
    c.in_ok-len.len read.1 read.2 (grind arith) run.view run.passes

pub returns-in_err-len-clause-performs : goal.returns-in_err-len-clause-performs
returns-in_err-len-clause-performs c =
    (no_varint c.args.self.now c.get_varint.new.self c.from_residual.result (search rules) c.in_err-len.ensures.none
    c.in_err-len.ensures.refused).0

pub returns-then-len-cap-clause-performs : goal.returns-then-len-cap-clause-performs
returns-then-len-cap-clause-performs c = let read = c.in_ok-len.ensures.value in
    (short_after_varint c.args.self.now c.get_varint.new.self read.0 c.in_ok-len.len read.1
    (grind (arith, length-drop)) read.2).0

pub returns-clause-performs : goal.returns-clause-performs
returns-clause-performs c =
    let read = c.in_ok-len.ensures.value in let one = returns-clause-one c read.0 c.in_ok-len.len read.1 in
    (after_varint c.args.self.now c.get_bytes.new.self c.get_bytes.result read.0 c.in_ok-len.len read.1 one.0 one.1
    (one.2, one.3)).0
