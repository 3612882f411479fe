use Rattle.octets.proofs.cursor.writable.loans as loan_calls
use Rattle.octets.proofs.loans.WalkSteps.{w64, emp}
use Rattle.octets.proofs.loans.LendingWalks.{as_view, passed, lends_so}
use loan_calls.parts.OctetsMut.part_passed.Met.{met as met_part}
use loan_calls.OctetsMut.lend_view.Met.{met as met_lend}
use loan_calls.OctetsMut.get_bytes_mut.Statement.{statement}
use loan_calls.OctetsMut.get_bytes_mut.Code as code

pub get_bytes_mut_spec : {M : Type 1} → statement M
get_bytes_mut_spec 𝓤 𝓛 𝓜 𝓡 wired =
    lends_so w64 as_view 𝓛 passed (λ m. emp 𝓤) 𝓜 𝓡 (code.unfolded 𝓤 𝓛.H 𝓜 𝓡 wired) (met_part 𝓤 𝓛 𝓜 𝓡
    (code.calls-octets::cursor::writable::loans::parts::OctetsMut::part_passed 𝓡.env wired))
    (met_lend 𝓤 𝓛 𝓜 𝓡 (code.calls-octets::cursor::writable::loans::OctetsMut::lend_view 𝓡.env wired))
