use Rattle.std.proofs.Common.{◌≡◌, ◌-◌, ℕ, List, refl}
use Rattle.octets_lists.specs.Acks.{need, after_range, Stops, EndsAt, here, later}

-- ranges end at one place
pub one_left : (k t : ℕ) (l : List ℕ) (i s : ℕ) (m : List ℕ) (j u : ℕ) (n : List ℕ)
    → EndsAt k t l i s m → EndsAt k t l j u n → i ≡ j
unfolding Stops
one_left _ _ _ _ _ _ _ _ _ (here _) (here _) = refl
one_left _ _ _ _ _ _ _ _ _ (here stops) (later goes _) = absurd (stops goes)
one_left _ _ _ _ _ _ _ _ _ (later goes _) (here stops) = absurd (stops goes)
one_left k t l i s m j u n (later _ ends) (later _ other) =
    one_left (k - 1) (t - need l) (after_range l) i s m j u n ends other

pub one_smallest : (k t : ℕ) (l : List ℕ) (i s : ℕ) (m : List ℕ) (j u : ℕ) (n : List ℕ)
    → EndsAt k t l i s m → EndsAt k t l j u n → s ≡ u
unfolding Stops
one_smallest _ _ _ _ _ _ _ _ _ (here _) (here _) = refl
one_smallest _ _ _ _ _ _ _ _ _ (here stops) (later goes _) = absurd (stops goes)
one_smallest _ _ _ _ _ _ _ _ _ (later goes _) (here stops) = absurd (stops goes)
one_smallest k t l i s m j u n (later _ ends) (later _ other) =
    one_smallest (k - 1) (t - need l) (after_range l) i s m j u n ends other

pub one_end : (k t : ℕ) (l : List ℕ) (i s : ℕ) (m : List ℕ) (j u : ℕ) (n : List ℕ)
    → EndsAt k t l i s m → EndsAt k t l j u n → m ≡ n
unfolding Stops
one_end _ _ _ _ _ _ _ _ _ (here _) (here _) = refl
one_end _ _ _ _ _ _ _ _ _ (here stops) (later goes _) = absurd (stops goes)
one_end _ _ _ _ _ _ _ _ _ (later goes _) (here stops) = absurd (stops goes)
one_end k t l i s m j u n (later _ ends) (later _ other) =
    one_end (k - 1) (t - need l) (after_range l) i s m j u n ends other
