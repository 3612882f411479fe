-- What numbers in network order keep.
use Rattle.std.proofs.Common.{◌≡◌, ℕ, zero, suc, ◌+◌, ◌*◌, ◌^◌, ◌%◌, ◌<◌, ◌≤◌, List, [], ◌∷◌, ◌++◌, refl, ap, sym}
use Rattle.std.proofs.Common.{length, take, drop, arith, length-take, take-append-drop}
use Rattle.std.proofs.lemmas.List.Elements.{All-nil, All-cons, All-head, All-tail, All-take, All-drop}
use Rattle.std.proofs.lemmas.Nat.{div-mul-add}
use Rattle.std.proofs.Math.Nat.{mod-lt, mod-one, mod-eq_of_lt, mul-add-div_right, mul-add-mod_self_right}
use Rattle.std.proofs.Math.Arith.{mod-mul}
use Rattle.octets.specs.Bytes.{AreBytes, number, network}

-- a digit over y in base p, below k of them
below_digit : (x k p y : ℕ) → x < k → y < p → x * p + y < k * p
below_digit x k p y h l = grind arith

power-pos : (n : ℕ) → 0 < 256 ^ n
power-pos zero = omega arith
power-pos (suc n) = let h = power-pos n in omega arith

power-suc : (n : ℕ) → 256 ^ suc n ≡ 256 * 256 ^ n
power-suc n = omega arith

pub length_network : (n v : ℕ) → length (network n v) ≡ n
unfolding network
length_network zero v = refl
length_network (suc n) v = ap suc (length_network n v)

-- a byte is a number of one byte
pub network_byte : (b : ℕ) → b < 256 → network 1 b ≡ b ∷ []
unfolding network
network_byte b h = ap (λ n. n ∷ []) (omega (arith, h))

pub are_bytes_network : (n v : ℕ) → AreBytes (network n v)
unfolding network
are_bytes_network zero v = All-nil (λ b. b < 256)
are_bytes_network (suc n) v = All-cons (λ b. b < 256) _ _ (mod-lt _ (omega arith)) (are_bytes_network n v)

-- bytes spell less than as many digits to the base 256 can
pub number_below : (b : List ℕ) → AreBytes b → number b < 256 ^ length b
number_below [] h = omega arith
number_below (x ∷ b) h =
    rw power-suc
    (below_digit x 256 _ (number b) (All-head (λ b. b < 256) x b h) (number_below b (All-tail (λ b. b < 256) x b h)))

-- of the bytes in network order, the number is the lowest part
pub number-network : (n v : ℕ) → number (network n v) ≡ v % 256 ^ n
unfolding network
number-network zero v = sym (mod-one v)
number-network (suc n) v =
    rw (length_network n v, number-network n v, power-suc) (sym (mod-mul v (omega arith) (power-pos n)))

-- the digits above the lowest n bytes of a number aren't among these bytes
network-more : (n x y : ℕ) → network n (x * 256 ^ n + y) ≡ network n y
unfolding network
network-more zero x y = refl
network-more (suc n) x y =
    let whole : x * 256 ^ suc n + y ≡ (x * 256) * 256 ^ n + y = rw power-suc (grind arith) in
    cc (
      network-more n (x * 256) y,
      mul-add-div_right (power-pos n) (x * 256) y,
      mul-add-mod_self_right x 256 _,
    )

-- bytes are those of their number
pub network-number : (b : List ℕ) → AreBytes b → network (length b) (number b) ≡ b
unfolding network
network-number [] h = refl
network-number (x ∷ b) h =
    let tail = All-tail (λ b. b < 256) x b h in
    cc (
      div-mul-add x _ (number b) (number_below b tail),
      network-more (length b) x (number b),
      network-number b tail,
      mod-eq_of_lt (All-head (λ b. b < 256) x b h),
    )

-- the bytes from a position on begin with those of the number that their first k spell
pub spelled_from : (b : List ℕ) (from n k : ℕ) → AreBytes b → k ≤ length (drop from b)
    → n ≡ number (take k (drop from b)) → drop from b ≡ network k n ++ drop k (drop from b)
spelled_from b from n k h l e =
    let d = drop from b in
    let all = All-take (λ x. x < 256) k d (All-drop (λ x. x < 256) from b h) in
    let long : length (take k d) ≡ k = omega (arith, l, length-take k d) in
    let same = rw long at (network-number (take k d) all) in
    cc (same, e, take-append-drop k d)
