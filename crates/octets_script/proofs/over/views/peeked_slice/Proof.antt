use Rattle.octets.proofs.loans.WalkSteps.{w64, emp}
use Rattle.octets.proofs.loans.LendingWalks.{ahead}
use Rattle.octets_script.proofs.OverWalks.{hands_slice}
use Rattle.octets.proofs.cursor.writable.loans.OctetsMut.peek_bytes_mut.Met.{met as met_lend}
use Rattle.octets_script.proofs.over.views.slice_of.Met.{met as met_hand}
use Rattle.octets_script.proofs.over.views.peeked_slice.Statement.{statement}
use Rattle.octets_script.proofs.over.views.peeked_slice.Code as code

pub peeked_slice_spec : {M : Type 1} → statement M
peeked_slice_spec 𝓤 𝓛 𝓜 𝓡 wired =
    hands_slice w64 𝓛 ahead (λ m. emp 𝓤) 𝓜 𝓡 (code.unfolded 𝓤 𝓛.H 𝓜 𝓡 wired)
    (met_lend 𝓤 𝓛 𝓜 𝓡 (code.calls-octets::cursor::writable::loans::OctetsMut::peek_bytes_mut 𝓡.env wired))
    (met_hand 𝓤 𝓛 𝓜 𝓡 (code.calls-octets_script::over::views::slice_of 𝓡.env wired))
