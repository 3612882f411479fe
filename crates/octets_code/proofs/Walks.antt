-- Sequences of moves over single bits. No code is a prefix of another, and the paths of the states are the prefixes
-- of codes.
use Rattle.std.proofs.Common.{◌≡◌, ◌≢◌, ℕ, zero, suc, ◌+◌, ◌-◌, ◌/◌, ◌%◌, ◌^◌, ◌==◌, nat_le, ◌<◌, ◌≤◌, Bool, true}
use Rattle.std.proofs.Common.{false, ◌&&◌, if◌then◌else◌, inl, inr, List, [], ◌∷◌, ◌++◌, get_or, length, refl, sym, ◌∙◌}
use Rattle.std.proofs.Common.{ap, arith, length-append, append_assoc, append-nil}
use Rattle.std.proofs.lemmas.Bool.{and_parts, eqb-true, leb-true, agree_below, agree_below_at, cases_order}
use Rattle.std.proofs.lemmas.List.{append_cancel_left, nil_from_length}
use Rattle.std.specs.Cmp.{booleans_Decides}
use Rattle.std.specs.Prelude.{⊤}
use mathlib.Core.Bool.{beq}
use mir.Val.{bool_byte}
use Rattle.octets_code.specs.declared.entries.Move.{Move}
use Rattle.octets_code.specs.declared.entries.Move.TheVariants.{On, Byte, End}
use Rattle.octets_code.specs.declared.tables.bit_moves.TheConstants.{BIT_MOVES}
use Rattle.octets_code.specs.Bits.{bits_of}
use Rattle.octets_code.specs.Table.{groups}
use Rattle.octets_code.specs.Codes.{Row, row_of, row_in, code}
use Rattle.octets_code.specs.Laws.{StatesAreFronts}
use Rattle.octets_code.specs.Moves.{IsMove}
use Rattle.octets_code.specs.States.{row, row_of_state, state_rows, path}
use Rattle.octets_code.specs.Steps.{IsOpen}
use Rattle.octets_code.proofs.MovesFit.{bit_moves_at}
use Rattle.octets_code.proofs.BitLemmas.{bits_of-append}

-- the move over the bit b from the state i
unfoldable pub moved : ℕ → Bool → Move
moved i b = get_or (get_or BIT_MOVES i []) (bool_byte b) End

moved_at : (i : ℕ) (b : Bool) → i < 256 → IsMove (path i) (b ∷ []) (moved i b)
unfolding moved
moved_at i b h = bit_moves_at i b [] End h

-- the symbol of the first code that these bits complete after a move, or 257
unfoldable pub first : Move → List Bool → ℕ
first (Byte j s) p = s
first End p = 256
first (On i) [] = 257
first (On i) (b ∷ p) = first (moved i b) p

-- the symbols below n, with their codes
unfoldable coded : ℕ → List (ℕ × List Bool)
coded zero = []
coded (suc n) = (n, code n) ∷ coded n

-- what follows the bit b in those of these codes that begin with it
unfoldable behind : Bool → List (ℕ × List Bool) → List (ℕ × List Bool)
behind b [] = []
behind b ((s, []) ∷ cs) = behind b cs
behind b ((s, c ∷ p) ∷ cs) = if beq c b then (s, p) ∷ behind b cs else behind b cs

-- no code has ended
unfoldable none_ended : List (ℕ × List Bool) → Bool
none_ended [] = true
none_ended ((s, []) ∷ cs) = false
none_ended ((s, c ∷ p) ∷ cs) = none_ended cs

-- each code has this symbol
unfoldable is_each : ℕ → List (ℕ × List Bool) → Bool
is_each u [] = true
is_each u ((s, p) ∷ cs) = u == s && is_each u cs

-- after a move each of these codes completes its own symbol, within k bits
unfoldable lead : ℕ → Move → List (ℕ × List Bool) → Bool
lead k (Byte j u) cs = is_each u cs
lead k End cs = is_each 256 cs
lead zero (On i) cs = false
lead (suc k) (On i) [] = true
lead (suc k) (On i) (c ∷ cs) =
    none_ended (c ∷ cs) && (lead k (moved i false) (behind false (c ∷ cs))
    && lead k (moved i true) (behind true (c ∷ cs)))

abbrev Lead : Move → List (ℕ × List Bool) → Type 0
Lead m [] = ⊤
Lead m ((s, p) ∷ cs) = (first m p ≡ s) × Lead m cs

each_completes : (m : Move) (u : ℕ) (cs : List (ℕ × List Bool)) → ((p : List Bool) → first m p ≡ u)
    → is_each u cs ≡ true → Lead m cs
unfolding is_each
each_completes m u [] e h = tt
each_completes m u ((s, p) ∷ cs) e h =
    let both = and_parts _ _ h in (e p ∙ eqb-true u s both.0, each_completes m u cs e both.1)

both_lead : (i : ℕ) (cs : List (ℕ × List Bool)) → none_ended cs ≡ true → Lead (moved i false) (behind false cs)
    → Lead (moved i true) (behind true cs) → Lead (On i) cs
unfolding none_ended behind first
both_lead i [] h l r = tt
both_lead i ((s, []) ∷ cs) h l r = cc
both_lead i ((s, false ∷ p) ∷ cs) h l r = (l.0, both_lead i cs h l.1 r)
both_lead i ((s, true ∷ p) ∷ cs) h l r = (r.0, both_lead i cs h l r.1)

lead-true : (k : ℕ) (m : Move) (cs : List (ℕ × List Bool)) → lead k m cs ≡ true → Lead m cs
unfolding lead first
lead-true k (Byte j u) cs h = each_completes (Byte j u) u cs (λ p. refl) h
lead-true k End cs h = each_completes End 256 cs (λ p. refl) h
lead-true zero (On i) cs h = cc
lead-true (suc k) (On i) [] h = tt
lead-true (suc k) (On i) (c ∷ cs) h =
    let p = and_parts _ _ h in
    let q = and_parts _ _ p.1 in
    both_lead i (c ∷ cs) p.0 (lead-true k (moved i false) _ q.0) (lead-true k (moved i true) _ q.1)

-- from the root each code completes its own symbol
all_lead : lead 31 (On 0) (coded 257) ≡ true
unfolding lead none_ended behind is_each coded moved code bits_of row_of row_in groups
all_lead = refl

of_coded : (m : Move) (n s : ℕ) → Lead m (coded n) → s < n → first m (code s) ≡ s
unfolding coded
of_coded m zero s h below = absurd (omega arith)
of_coded m (suc n) s h below = elim (cases_order s n) [
  | inl same ↦ rw same h.0
  | inr (inl less) ↦ of_coded m n s h.1 less
  | inr (inr more) ↦ absurd (omega arith)
]

first-code : (s : ℕ) → s ≤ 256 → first (On 0) (code s) ≡ s
first-code s h = of_coded (On 0) 257 s (lead-true 31 (On 0) (coded 257) all_lead) (omega arith)

first-append : (m : Move) (p q : List Bool) → first m p ≤ 256 → first m (p ++ q) ≡ first m p
unfolding first
first-append (Byte j s) p q h = refl
first-append End p q h = refl
first-append (On i) [] q h = absurd (omega arith)
first-append (On i) (b ∷ p) q h = first-append (moved i b) p q h

-- no code begins another
pub apart : (s t : ℕ) (r : List Bool) → s ≤ 256 → t ≤ 256 → code t ≡ code s ++ r → (s ≡ t) × (r ≡ [])
apart s t r hs ht e =
    let same : s ≡ t = grind (arith, first-code s hs, first-code t ht, first-append (On 0) (code s) r) in
    (same, append_cancel_left (code s) r [] (sym e ∙ ap code (sym same) ∙ sym (append-nil (code s))))

-- a code that begins a code is all of it
nothing_behind : (u s : ℕ) (x p r : List Bool) → u ≤ 256 → s ≤ 256 → code s ≡ (code u ++ x) ++ (p ++ r) → r ≡ []
nothing_behind u s x p r hu hs e =
    let none = (apart u s (x ++ (p ++ r)) hu hs (e ∙ append_assoc (code u) x (p ++ r))).1 in
    nil_from_length r (omega (arith, simp length-append at (ap length none)))

-- a move within a code leads to the path of a state, and so do the bits that follow it there
within_code : (m : Move) (y x p r : List Bool) (s : ℕ) → IsMove y x m → s ≤ 256 → r ≢ [] → code s ≡ (y ++ x) ++ (p ++ r)
    → (n : ℕ) × (n < 256) × (path n ≡ (y ++ x) ++ p)
within_code (On i) y x [] r s h hs n e = (i, h.0, h.1 ∙ sym (append-nil (y ++ x)))
within_code (On i) y x (b ∷ p) r s h hs n e =
    let e' = (rw (← h.1) at e) ∙ sym (append_assoc (path i) (b ∷ []) (p ++ r)) in
    let w = within_code (moved i b) (path i) (b ∷ []) p r s (moved_at i b h.0) hs n e' in
    (w.0, w.1, rw (← h.1) (w.2 ∙ append_assoc (path i) (b ∷ []) p))
within_code (Byte j u) y x p r s h hs n e =
    absurd (n (nothing_behind u s (path j) p r (omega arith) hs (e ∙ ap (λ z. z ++ (p ++ r)) h.2)))
within_code End y x p r s h hs n e =
    absurd (n (nothing_behind 256 s h.0 p r (omega arith) hs (e ∙ ap (λ z. z ++ (p ++ r)) h.1)))

-- the symbol to which zeros lead after a move
unfoldable beyond : ℕ → Move → ℕ
beyond k (Byte j s) = s
beyond k End = 256
beyond zero (On i) = 257
beyond (suc k) (On i) = beyond k (moved i false)

-- the code of an entry begins with the bits of another entry and the bit b, as numbers
unfoldable goes : Bool → Row → Row → Bool
goes b r c =
    let k = c.len - suc r.len in
    (c.len == r.len + suc k) && ((c.number / 2 ^ suc k == r.number) && beq (c.number / 2 ^ k % 2 == 1) b)

goes-true : (b : Bool) (r c : Row) → goes b r c ≡ true
    → (q : List Bool) × (bits_of c.len c.number ≡ bits_of r.len r.number ++ (b ∷ q))
unfolding goes bits_of
goes-true b r c h =
    let k = c.len - suc r.len in
    let p = and_parts _ _ h in
    let q = and_parts _ _ p.1 in (
      bits_of k c.number,
      ap (λ n. bits_of n c.number) (eqb-true _ _ p.0) ∙ bits_of-append r.len (suc k) c.number
          ∙ ap (λ n. bits_of r.len n ++ bits_of (suc k) c.number) (eqb-true _ _ q.0)
          ∙ ap (λ z. bits_of r.len r.number ++ (z ∷ bits_of k c.number)) ((booleans_Decides _ b).0 q.1),
    )

unfoldable state_goes : Bool → ℕ → Bool
state_goes b i =
    let t = beyond 30 (moved i b) in
    nat_le t 256 && goes b (row_of_state i) (row_of t)

all_go : (b : Bool) → agree_below (state_goes b) (λ i. true) 256 ≡ true
unfolding state_goes goes beyond moved row_of row_in groups row_of_state state_rows row
all_go true = refl
all_go false = refl

-- after the path of a state a code goes on by either bit
goes_from : (i : ℕ) (b : Bool) → i < 256 → (t : ℕ) × (q : List Bool) × (t ≤ 256) × (code t ≡ path i ++ (b ∷ q))
unfolding state_goes path code
goes_from i b h =
    let t = beyond 30 (moved i b) in
    let p = and_parts _ _ (agree_below_at (state_goes b) (λ i. true) 256 i (all_go b) h) in
    let w = goes-true b (row_of_state i) (row_of t) p.1 in
    (t, w.0, leb-true t 256 p.0, w.1)

-- the path of a state is a prefix of a code, but not a code
pub path_open : (i : ℕ) → i < 256 → IsOpen (path i)
path_open i h =
    let w = goes_from i true h in
    (w.0, true ∷ w.1, w.2, (λ e. cc), w.3)

-- the paths of the 256 states are exactly the prefixes of codes that aren't codes
pub states_are_fronts : StatesAreFronts
unfolding path row_of_state state_rows row bits_of
states_are_fronts p = (
  (λ o. within_code (On 0) [] [] p o.1 o.0 (omega arith, refl) o.2 o.3 o.4),
  (λ h. rw (← h.2) (path_open h.0 h.1)),
)

-- after a move, bits that complete no code lead to the path of a state
walks_on : (m : Move) (y x p : List Bool) → IsMove y x m → first m p ≡ 257
    → (n : ℕ) × (n < 256) × (path n ≡ (y ++ x) ++ p)
unfolding first
walks_on (On i) y x [] h e = (i, h.0, h.1 ∙ sym (append-nil (y ++ x)))
walks_on (On i) y x (b ∷ p) h e =
    let w = walks_on (moved i b) (path i) (b ∷ []) p (moved_at i b h.0) e in
    (w.0, w.1, rw (← h.1) (w.2 ∙ append_assoc (path i) (b ∷ []) p))
walks_on (Byte j u) y x p h e = absurd (omega (arith, h.1, e))
walks_on End y x p h e = absurd (omega (arith, e))

-- bits that complete no code are a prefix of one
unfoldable pub completes_none : List Bool → Bool
completes_none p = first (On 0) p == 257

pub completes_none-true : (p : List Bool) → completes_none p ≡ true → IsOpen p
unfolding completes_none path row_of_state state_rows row bits_of
completes_none-true p h =
    let w = walks_on (On 0) [] [] p (omega arith, refl) (eqb-true _ 257 h) in rw (← w.2) (path_open w.0 w.1)

-- if a prefix of a code isn't a code, each bit extends it to a prefix of a code
pub goes_on : (s : ℕ) (p r : List Bool) (b : Bool) → s ≤ 256 → code s ≡ p ++ r → r ≢ []
    → (t : ℕ) × (q : List Bool) × (t ≤ 256) × (code t ≡ p ++ (b ∷ q))
goes_on s p r b hs e n =
    let i = (states_are_fronts p).0 (s, r, hs, n, e) in
    rw i.2 at (goes_from i.0 b i.1)
