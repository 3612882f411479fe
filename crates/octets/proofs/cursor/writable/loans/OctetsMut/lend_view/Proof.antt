-- `lend_part` lends the slice; the view is a cursor made of
-- it, so the cursor follows the view as it followed the slice.
use Rattle.octets.proofs.cursor.writable.loans as loan_calls
use Rattle.octets.specs
use Rattle.octets.proofs.loans
use loans.WalkSteps.{[], ◌∷◌, refl, id⊢, ftrue, use1, flft, tables, ‵, ◌⊛◌, ◌$◌, !, move, keep, drop, split, join}
use loans.WalkSteps.{rewrite, suffices, enter, addr, stop, no_more, and_then, returns, alloc_all, pass_all, free_all}
use loans.WalkSteps.{look_at, get, through, sets, lands_as, u8, nothing, heard, ends_at, framed}
use Rattle.std.specs.Prelude.{IsOk}
use Rattle.std.specs.Borrow.{follows_if, Array}
use mathlib.Core.Option.{Option}
use base.Fml.{GName}
use specs.Bytes.{splice}
use specs.Loans.{LendsBytes, Row, standing}
use specs.Parts.{from_of, the_part}
use loans.LentValues.{lent_bytes_typed, lent_view, lent_view_typed}
use loans.PartValues.{maybe_part, maybe_part_vals, maybe_part_Tells, maybe_part_val, maybe_part_typed}
use loans.Recasts.{same_name, view_fits, view_shows}
use loans.CursorWalks.{bound, lends_by, stayed}
use loans.CallSteps.{calls, hears_beside, hands_over}
use specs.contracts.cursor.writable.loans.OctetsMut.lend_part as h
use loan_calls.OctetsMut.lend_part.Met.{met as met_lend}
use specs.contracts.cursor.writable.loans.view_of as g
use loan_calls.view_of.Met.{met as met_view}
use specs.contracts.cursor.writable.loans.OctetsMut.lend_view as f
use loan_calls.OctetsMut.lend_view.Statement.{statement}
use loan_calls.OctetsMut.lend_view.Code as code

pub lend_view_spec : {M : Type 1} → statement M
lend_view_spec 𝓤 𝓛 𝓜 𝓡 wired =
    let c = f.clauses 𝓛 𝓜.mem 𝓡.returns in let 𝓣 = tables 𝓤 𝓛.H 𝓜 𝓡 𝓡.env in
    lends_by maybe_part lent_view 𝓛 c maybe_part_vals 𝓜 𝓡 (λ κs x w. refl) maybe_part_Tells code.function
    (code.unfolded 𝓤 𝓛.H 𝓜 𝓡 wired) (λ κ κ' q q' inc x t _ is_part.
    let y = bound maybe_part lent_view 𝓛 c maybe_part_vals κ κ' q q' inc x t tt in enter ! _ _ _ _ _
    $ alloc_all ! (λ l. pass_all ! refl ((tt, tt), (maybe_part_typed t (maybe_part_val t) is_part, tt))
    $ sets ! (addr ! (through ! refl (stop !))) refl (tt, tt) $
    calls ! (framed 𝓤 𝓛.H 𝓜 𝓣) h.ended (h.clauses 𝓛 𝓜.mem 𝓡.returns)
    (met_lend 𝓤 𝓛 𝓜 𝓡 (code.calls-octets::cursor::writable::loans::OctetsMut::lend_part 𝓡.env wired)) y (id⊢ 𝓤 _)
    (and_then ! (get ! refl) (and_then ! (get ! refl) (no_more !))) (λ u s us is. drop ! $
    hears_beside ! (LendsBytes x x.now.buf.now (from_of t) x.now.off s) (λ same shown.
    -- [what the cursor follows; the tokens; the slice]
    lands_as ! refl refl (lent_bytes_typed κ s u is) $ move ! (1 ∷ []) $
    use1 𝓛 (‵ (flft κ q) ⊛ ‵ (flft κ' q') ⊛ ‵ ftrue) (id⊢ 𝓤 _) $ split ! $ nothing ! $
    move ! (1 ∷ 0 ∷ []) $ join ! $ nothing ! $ move ! (4 ∷ 0 ∷ []) $ join ! $ move ! (1 ∷ 0 ∷ []) $ join ! $ nothing !
    $ move ! (1 ∷ 0 ∷ []) $ calls ! (framed 𝓤 𝓛.H 𝓜 𝓣) g.ended (g.clauses 𝓛 𝓜.mem 𝓡.returns)
    (met_view 𝓤 𝓛 𝓜 𝓡 (code.calls-octets::cursor::writable::loans::view_of 𝓡.env wired))
    (((κ, tt), (q, tt), tt, (s, tt), (u ∷ [], tt)), tt) (id⊢ 𝓤 _) (and_then ! (get ! refl) (no_more !)) (λ v r us' is₁.
    -- [the token of κ; the view; the token of κ'; what the cursor follows]
    drop ! $ heard ! _ (λ viewed. lands_as ! refl refl (lent_view_typed κ r v is₁) $
    use1 𝓛 (‵ (flft κ q) ⊛ ‵ ftrue) (id⊢ 𝓤 _) $ split ! $ move ! (1 ∷ []) $ drop ! $ move ! (0 ∷ 2 ∷ []) $ join ! $
    move ! (2 ∷ []) $ rewrite ! 0 (λ (n : Option GName). ‵ (follows_if Row (Array u8 0) x.ghost_name n
    (λ w. standing x.now (splice x.now.buf.now (from_of t) w) x.now.off) x.now))
    (same_name s r viewed) refl $ returns ! (look_at ! 0 refl) $ free_all ! refl $ keep ! (0 ∷ 1 ∷ 2 ∷ []) $
    suffices ! _ (ends_at 𝓛 f.ended (stayed maybe_part lent_view) c y v r (tt, (tt, tt)) (tt, (tt, tt))) $
    hands_over ! 2 (view_fits (IsOk t) s r viewed same) (view_shows (the_part t x.now.buf.now) s r viewed shown)))))))
