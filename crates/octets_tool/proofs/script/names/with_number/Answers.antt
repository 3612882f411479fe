use Rattle.std.proofs.Common.{◌∷◌, [], refl}
use Rattle.octets_script.specs.Calls.{GetBytes, PeekBytes, Decode, Rewind, Skip}
use Rattle.octets_tool.specs.Names.{decimal_word}
use Rattle.octets_tool.proofs.NamedRows.{none_found}
use Rattle.octets_tool.proofs.Rows.{over_count, made_alone}
use Rattle.octets_tool.proofs.script.names.with_number.Goals as goal

pub returns-in_err-count : goal.returns-in_err-count
returns-in_err-count c = rw c.from_residual.ensures (over_count c.args.name.now c.args.number c.in_err-count.ensures)

pub returns-in-get_bytes : goal.returns-in-get_bytes
returns-in-get_bytes c = made_alone GetBytes _ _ c.in_ok-count.ensures c.in-get_bytes.is refl

pub returns-in-peek_bytes : goal.returns-in-peek_bytes
returns-in-peek_bytes c = made_alone PeekBytes _ _ c.in_ok-count.ensures c.in-peek_bytes.is refl

pub returns-in-decode : goal.returns-in-decode
returns-in-decode c = made_alone Decode _ _ c.in_ok-count.ensures c.in-decode.is refl

pub returns-in-rewind : goal.returns-in-rewind
returns-in-rewind c = made_alone Rewind _ _ c.in_ok-count.ensures c.in-rewind.is refl

pub returns-in-skip : goal.returns-in-skip
returns-in-skip c = made_alone Skip _ _ c.in_ok-count.ensures c.in-skip.is refl

pub returns-in_default : goal.returns-in_default
returns-in_default c = none_found c.args.name.now (decimal_word c.args.number ∷ []) search
