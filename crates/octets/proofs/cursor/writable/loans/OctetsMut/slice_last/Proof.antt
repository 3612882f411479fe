use Rattle.octets.proofs.cursor.writable.loans as loan_calls
use Rattle.octets.proofs.loans.WalkSteps.{w64, emp}
use Rattle.octets.proofs.loans.LendingWalks.{as_bytes, at_end, lends_so}
use loan_calls.parts.OctetsMut.part_at_end.Met.{met as met_part}
use loan_calls.OctetsMut.lend_part.Met.{met as met_lend}
use loan_calls.OctetsMut.slice_last.Statement.{statement}
use loan_calls.OctetsMut.slice_last.Code as code

pub slice_last_spec : {M : Type 1} → statement M
slice_last_spec 𝓤 𝓛 𝓜 𝓡 wired =
    lends_so w64 as_bytes 𝓛 at_end (λ m. emp 𝓤) 𝓜 𝓡 (code.unfolded 𝓤 𝓛.H 𝓜 𝓡 wired) (met_part 𝓤 𝓛 𝓜 𝓡
    (code.calls-octets::cursor::writable::loans::parts::OctetsMut::part_at_end 𝓡.env wired))
    (met_lend 𝓤 𝓛 𝓜 𝓡 (code.calls-octets::cursor::writable::loans::OctetsMut::lend_part 𝓡.env wired))
