-- Literals one after another.
use Rattle.std.proofs.Common.{◌≡◌, ℕ, ◌+◌, ◌<◌, ◌≤◌, inl, inr, List, [], ◌∷◌, ◌++◌, length, drop, map, Vec, refl, sym}
use Rattle.std.proofs.Common.{subst, ap, arith, length-append}
use Rattle.std.proofs.lemmas.Grind.{common_steps}
use Rattle.std.proofs.lemmas.List.{append-nil, map-append}
use Rattle.std.proofs.lemmas.List.Elements.{All-head, All-tail, All-map, All-push, All-same}
use Rattle.std.specs.List.{All}
use Rattle.octets.proofs.lemmas.Outcomes.{same_rest}
use Rattle.octets.specs.Requests.{Refused}
use Rattle.octets_literal.specs.Literals.{BeginsLiteral, AreLiterals}
use Rattle.octets_literal.specs.Faults.{IsRefused, StopsAt}
use Rattle.octets_literal.specs.declared.error.LiteralError.{LiteralError}
use Rattle.octets_literal.specs.declared.error.LiteralError.TheVariants.{OutOfMemory}
use Rattle.octets_literal.proofs.OneLiteral.{one_literal, literal_some, literal_within}

-- after no literals, the whole list follows
pub no_literals : (l : List ℕ) → AreLiterals l [] l
unfolding AreLiterals
no_literals l = refl

-- one more literal
pub literals_more : (l : List ℕ) (vs : List (List ℕ)) (r : List ℕ) (k : ℕ) (v : List ℕ) → AreLiterals l vs r
    → BeginsLiteral r k v → AreLiterals l (vs ++ (v ∷ [])) (drop k r)
unfolding AreLiterals
literals_more l [] r k v e b = (k, subst (λ t. BeginsLiteral t k v) (sym e) b, ap (drop k) e)
literals_more l (u ∷ vs) r k v (j, a, f) b = (j, a, literals_more (drop j l) vs r k v f b)

-- and its value in a list of them
pub literals_pushed : {A : Type 0} (l : List ℕ) (vs ws : List (Vec ℕ A)) (r t : List ℕ) (k : ℕ) (v : Vec ℕ A)
    → AreLiterals l (map (λ x. x.items) vs) r → BeginsLiteral r k v.items → ws ≡ vs ++ (v ∷ []) → t ≡ drop k r
    → AreLiterals l (map (λ x. x.items) ws) t
literals_pushed l vs ws r t k v a b e f = grind (arith, map-append, literals_more)

-- if its value is within the limit, all values are
pub within_more : {A : Type 0} (m : ℕ) (vs ws : List (Vec ℕ A)) (v : Vec ℕ A) → ws ≡ vs ++ (v ∷ [])
    → All (λ x. length x.items ≤ m) vs → length v.items ≤ m
    → All (λ x. length x.items ≤ m) ws
within_more m vs ws v e w small = grind (arith, common_steps, All-same, All-push)

some_there : (l : List ℕ) (k : ℕ) (v : List ℕ) → BeginsLiteral l k v → 0 < length l
some_there l k v b = omega (arith, literal_some l k v b, literal_within l k v b)

-- the literals that a list is begin with those that were read of it
go_on : (l : List ℕ) (us : List (List ℕ)) (r : List ℕ) (vs : List (List ℕ)) → AreLiterals l us r → AreLiterals l vs []
    → (ts : List (List ℕ)) × (vs ≡ us ++ ts) × AreLiterals r ts []
unfolding AreLiterals
go_on l [] r vs a b = (vs, refl, subst (λ t. AreLiterals t vs []) a b)
go_on l (u ∷ us) r [] (k, a, f) b = absurd (omega (arith, some_there l k u a, ap length b))
go_on l (u ∷ us) r (v ∷ vs) (j, a, f) (k, c, g) =
    let same = one_literal l j k u v a c in
    let on = go_on (drop j l) us r vs f (subst (λ i. AreLiterals (drop i l) vs []) (sym same.0) g) in
    (on.0, cc (same.1, on.1), on.2)

nothing_left : (r : List ℕ) (ts : List (List ℕ)) → length r ≡ 0 → AreLiterals r ts [] → ts ≡ []
unfolding AreLiterals
nothing_left r [] e a = refl
nothing_left r (t ∷ ts) e (k, b, f) = absurd (omega (arith, e, some_there r k t b))

-- if nothing is left, the literals that were read are all
pub all_read : (l : List ℕ) (us : List (List ℕ)) (r : List ℕ) (vs : List (List ℕ)) → AreLiterals l us r → length r ≡ 0
    → AreLiterals l vs [] → us ≡ vs
all_read l us r vs a e b = grind (arith, go_on, nothing_left, append-nil)

within_next : (P : List ℕ → Type 0) (us : List (List ℕ)) (t : List ℕ) (ts : List (List ℕ))
    → All P (us ++ (t ∷ ts)) → P t
within_next P [] t ts w = All-head P t ts w
within_next P (u ∷ us) t ts w = within_next P us t ts (All-tail P u (us ++ (t ∷ ts)) w)

next_refused : (us : List (List ℕ)) (r : List ℕ) (ts : List (List ℕ)) (m : ℕ) (why : LiteralError) → 0 < length r
    → AreLiterals r ts []
    → All (λ v. length v ≤ m) (us ++ ts)
    → ((k : ℕ) (v : List ℕ) → BeginsLiteral r k v → length v ≤ m → why ≡ OutOfMemory) → why ≡ OutOfMemory
unfolding AreLiterals
next_refused us r [] m why some a w gives = absurd (omega (arith, some, ap length a))
next_refused us r (t ∷ ts) m why some (k, b, f) w gives = gives k t b (within_next (λ v. length v ≤ m) us t ts w)

-- reading a literal of a list of them fails only if an allocation does
pub refused_for_memory : (l : List ℕ) (us : List (List ℕ)) (r : List ℕ) (vs : List (List ℕ)) (m : ℕ)
    (why : LiteralError)
    → AreLiterals l us r → 0 < length r → AreLiterals l vs [] → All (λ v. length v ≤ m) vs
    → ((k : ℕ) (v : List ℕ) → BeginsLiteral r k v → length v ≤ m → why ≡ OutOfMemory) → why ≡ OutOfMemory
refused_for_memory l us r vs m why a some b w gives =
    let on = go_on l us r vs a b in
    next_refused us r on.0 m why some on.2 (subst (All (λ v. length v ≤ m)) on.1 w) gives

no_items : {A : Type 0} (ws : List (Vec ℕ A)) → map (λ w. w.items) ws ≡ [] → ws ≡ []
no_items [] e = refl
no_items (w ∷ ws) e = cc

none_of_nothing : (l : List ℕ) (us : List (List ℕ)) (r : List ℕ) → AreLiterals l us r → l ≡ []
    → (us ≡ []) × (length r ≡ 0)
unfolding AreLiterals
none_of_nothing l [] r a e = (refl, omega (arith, ap length e, ap length a))
none_of_nothing l (u ∷ us) r (k, b, f) e = absurd (omega (arith, ap length e, some_there l k u b))

-- of nothing no value is read, and nothing is left
pub nothing_read : {A : Type 0} (l : List ℕ) (ws : List (Vec ℕ A)) (r : List ℕ)
    → AreLiterals l (map (λ w. w.items) ws) r → l ≡ [] → ws ≡ []
nothing_read l ws r a e = no_items ws (none_of_nothing l (map (λ w. w.items) ws) r a e).0

-- a list of which something is left isn't empty
pub something_left : (l : List ℕ) (us : List (List ℕ)) (r : List ℕ) → AreLiterals l us r → 0 < length r → l ≡ [] → ⊥
something_left l us r a some e = omega (arith, some, (none_of_nothing l us r a e).1)

-- a reader stops where the next read fails
pub stops_at : {A : Type 0} (l : List ℕ) (ws : List (Vec ℕ A)) (r t : List ℕ) (m : ℕ) (why : LiteralError)
    → AreLiterals l (map (λ w. w.items) ws) r
    → All (λ w. length w.items ≤ m) ws → t ≡ r → 0 < length r → IsRefused r m why → StopsAt l t m why
stops_at l ws r t m why a w e some refused = rw e (record {
  values = map (λ v. v.items) ws;
  read = a;
  within = All-map (λ v. length v ≤ m) (λ v. v.items) ws w;
  refused = inl (some, refused);
})

one_more : {A : Type 0} (ws : List (Vec ℕ A)) (v : List ℕ)
    → length (map (λ x. x.items) ws ++ (v ∷ [])) ≡ length ws + 1
one_more ws v = grind (arith, common_steps)

-- a reader stops after a literal whose value didn't fit into the list
pub stops_behind : {A : Type 0} (l : List ℕ) (ws : List (Vec ℕ A)) (r t : List ℕ) (m k : ℕ) (v : List ℕ)
    → AreLiterals l (map (λ w. w.items) ws) r
    → All (λ w. length w.items ≤ m) ws → BeginsLiteral r k v → length v ≤ m → t ≡ drop k r
    → Refused (length ws + 1) → StopsAt l t m OutOfMemory
stops_behind l ws r t m k v a w b small e n = rw e (record {
  values = map (λ x. x.items) ws ++ (v ∷ []);
  read = literals_more l (map (λ x. x.items) ws) r k v a b;
  within =
      All-push (λ x. length x ≤ m) (map (λ x. x.items) ws) v (All-map (λ x. length x ≤ m) (λ x. x.items) ws w) small;
  refused = let sum = one_more ws v in inr (refl, omega (arith, sum), subst Refused (sym sum) n);
})

-- at a reader of literals up to the end
pub ruleset lists = (
  no_literals,
  literals_pushed,
  within_more,
  all_read,
  refused_for_memory,
  nothing_read,
  something_left,
  stops_at,
  stops_behind,
  same_rest,
)
