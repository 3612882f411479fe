use Rattle.octets.proofs.cursor.writable.loans as loan_calls
use Rattle.octets.proofs.loans.WalkSteps.{w64, fact, ◌<◌, ◌^◌}
use Rattle.octets.proofs.loans.LendingWalks.{as_bytes, varint_of, lends_so}
use loan_calls.parts.OctetsMut.part_of_varint.Met.{met as met_part}
use loan_calls.OctetsMut.lend_part.Met.{met as met_lend}
use loan_calls.OctetsMut.put_varint.Statement.{statement}
use loan_calls.OctetsMut.put_varint.Code as code

pub put_varint_spec : {M : Type 1} → statement M
put_varint_spec 𝓤 𝓛 𝓜 𝓡 wired =
    lends_so w64 as_bytes 𝓛 varint_of (λ m. fact 𝓤 (m < 2 ^ 62)) 𝓜 𝓡 (code.unfolded 𝓤 𝓛.H 𝓜 𝓡 wired) (met_part 𝓤 𝓛 𝓜 𝓡
    (code.calls-octets::cursor::writable::loans::parts::OctetsMut::part_of_varint 𝓡.env wired))
    (met_lend 𝓤 𝓛 𝓜 𝓡 (code.calls-octets::cursor::writable::loans::OctetsMut::lend_part 𝓡.env wired))
