use Rattle.std.proofs.Common.{◌≡◌, ◌<◌, ◌∙◌, arith, length}
use Rattle.std.proofs.lemmas.List.{take_at}
use Rattle.std.proofs.lemmas.Result.{err_from_is_err_and}
use Rattle.octets_tool.specs.declared.fault.RunFault.TheVariants.{TooLong}
use Rattle.octets_tool.specs.Limits.{most_input}
use Rattle.octets_tool.proofs.reading.read_whole.Goals as goal

pub returns-in_err-buffer-clause-too_long : goal.returns-in_err-buffer-clause-too_long
returns-in_err-buffer-clause-too_long g c = λ answered.
    let fault = err_from_is_err_and c.from_residual.result c.from_residual.ensures.1 in
    cc (fault.1, fault.2, answered)

pub returns-in_err-buffer-clause-reading_alone : goal.returns-in_err-buffer-clause-reading_alone
returns-in_err-buffer-clause-reading_alone g c =
    let fault = err_from_is_err_and c.from_residual.result c.from_residual.ensures.1 in
    rw fault.1 (λ same. cc (fault.2, same))

-- the buffer was full, and it has a byte more than the most that an input may have
pub returns-in_err-filled-clause-too_long : goal.returns-in_err-filled-clause-too_long
returns-in_err-filled-clause-too_long g c = λ answered.
    let fault = err_from_is_err_and c.from_residual-in_err-filled.result c.from_residual-in_err-filled.ensures.1 in
    let same : c.in_err-filled.field-0.0 ≡ TooLong = cc (fault.1, fault.2, answered) in
    let long : most_input < length c.fill.new.buffer =
    omega (arith, c.fill.auto.buffer, c.deref_mut.ensures.len, c.in_ok-buffer.ensures.len) in
    (c.fill.new.buffer, long, c.in_err-filled.ensures.too_long (cc same))

-- what was filled is kept
pub returns-clause-whole : goal.returns-clause-whole
returns-clause-whole g c =
    let long : length c.fill.new.buffer ≡ c.in_ok-buffer.buffer.len = c.fill.auto.buffer ∙ c.deref_mut.ensures.len in
    rw (c.truncate.ensures.items, take_at) c.in_ok-filled.ensures.whole

pub returns-clause-within : goal.returns-clause-within
returns-clause-within g c = omega (
  arith,
  c.truncate.ensures.len,
  c.in_ok-filled.ensures.within,
  c.fill.auto.buffer,
  c.deref_mut.ensures.len,
  c.in_ok-buffer.ensures.len,
)
