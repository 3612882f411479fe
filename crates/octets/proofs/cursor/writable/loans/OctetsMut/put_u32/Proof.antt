use Rattle.octets.proofs.cursor.writable.loans as loan_calls
use Rattle.octets.proofs.loans.WalkSteps.{w32, emp}
use Rattle.octets.proofs.loans.LendingWalks.{as_bytes, network_of, lends_so}
use loan_calls.parts.OctetsMut.part_of_u32.Met.{met as met_part}
use loan_calls.OctetsMut.lend_part.Met.{met as met_lend}
use loan_calls.OctetsMut.put_u32.Statement.{statement}
use loan_calls.OctetsMut.put_u32.Code as code

pub put_u32_spec : {M : Type 1} → statement M
put_u32_spec 𝓤 𝓛 𝓜 𝓡 wired =
    lends_so w32 as_bytes 𝓛 (network_of 4) (λ m. emp 𝓤) 𝓜 𝓡 (code.unfolded 𝓤 𝓛.H 𝓜 𝓡 wired) (met_part 𝓤 𝓛 𝓜 𝓡
    (code.calls-octets::cursor::writable::loans::parts::OctetsMut::part_of_u32 𝓡.env wired))
    (met_lend 𝓤 𝓛 𝓜 𝓡 (code.calls-octets::cursor::writable::loans::OctetsMut::lend_part 𝓡.env wired))
