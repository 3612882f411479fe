use Rattle.octets.proofs.loans.WalkSteps.{w64, emp}
use Rattle.octets.proofs.loans.LendingWalks.{at_end}
use Rattle.octets_script.proofs.OverWalks.{writes_over}
use Rattle.octets.proofs.cursor.writable.loans.OctetsMut.slice_last.Met.{met as met_lend}
use Rattle.octets_script.proofs.over.slices.over_part.Met.{met as met_over}
use Rattle.octets_script.proofs.over.slices.over_last.Statement.{statement}
use Rattle.octets_script.proofs.over.slices.over_last.Code as code

pub over_last_spec : {M : Type 1} → statement M
over_last_spec 𝓤 𝓛 𝓜 𝓡 wired =
    writes_over w64 𝓛 at_end (λ m. emp 𝓤) 𝓜 𝓡 (code.unfolded 𝓤 𝓛.H 𝓜 𝓡 wired)
    (met_lend 𝓤 𝓛 𝓜 𝓡 (code.calls-octets::cursor::writable::loans::OctetsMut::slice_last 𝓡.env wired))
    (met_over 𝓤 𝓛 𝓜 𝓡 (code.calls-octets_script::over::slices::over_part 𝓡.env wired))
