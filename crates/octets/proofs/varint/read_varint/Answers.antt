-- By the mark m of the first byte: 2^m bytes are read, and the number without its two top bits is the value.
use Rattle.std.proofs.Common.{rules, ◌≡◌, ◌+◌, ◌-◌, ◌*◌, ◌/◌, ◌≤◌, ◌<◌, ◌^◌, ℕ, List, length, take, drop, get_or}
use Rattle.std.proofs.Common.{arith, subst, refl, bit_and, Fits, w8}
use Rattle.std.proofs.lemmas.List.{get_or-drop}
use Rattle.std.proofs.lemmas.List.Elements.{All-from_get_or}
use Rattle.std.proofs.lemmas.Nat.{and_mask}
use Rattle.octets.specs.Bytes.{number}
use Rattle.octets.specs.Varints.{BeginsVarint}
use Rattle.octets.proofs.lemmas.Varints.{begins_marked, begins_none}
use Rattle.octets.proofs.varint.read_varint.Goals as goal

-- the bytes from a position on are bytes
dropped : (from : ℕ) (l : List ℕ) → ((i : ℕ) → Fits w8 (get_or l i 0)) → (i : ℕ) → Fits w8 (get_or (drop from l) i 0)
dropped from l bytes i = rw (get_or-drop from l i 0) (bytes (from + i))

-- the mark m is the first byte's: the bytes x that follow it, with the mark masked out, are the value
masked : (m : ℕ) (l : List ℕ) (x v : ℕ) → m < 4 → ((i : ℕ) → Fits w8 (get_or l i 0)) → number (take 1 l) / 64 ≡ m
    → 2 ^ m ≤ length l → x ≡ number (take (2 ^ m) l)
    → v ≡ bit_and x (2 ^ (8 * 2 ^ m - 2) - 1) → BeginsVarint l (2 ^ m) v
masked m l x v h bytes first fits is e =
    subst (λ n. BeginsVarint l (2 ^ m) n) (grind (arith, and_mask))
    (begins_marked m l h (All-from_get_or (λ b. b < 256) l 0 (λ i k. omega (arith, bytes i))) fits first)

pub returns-in_err-read_u16-clause-refused : goal.returns-in_err-read_u16-clause-refused
returns-in_err-read_u16-clause-refused c =
    search (rules, begins_none 1 (drop c.args.from c.args.bytes.now) (grind arith) (grind arith))

pub returns-in_ok-read_u16-clause-value : goal.returns-in_ok-read_u16-clause-value
returns-in_ok-read_u16-clause-value c =
    let r = c.in_ok-read_u16.ensures in masked 1 (drop c.args.from c.args.bytes.now) _ _ (omega arith)
    (dropped c.args.from c.args.bytes.now c.type_inv.bytes) (grind arith)
    (r.fits.0 refl) r.value c.from-then-mark-lt2.ensures

pub returns-in_err-read_u32-clause-refused : goal.returns-in_err-read_u32-clause-refused
returns-in_err-read_u32-clause-refused c =
    search (rules, begins_none 2 (drop c.args.from c.args.bytes.now) (grind arith) (grind arith))

pub returns-in_ok-read_u32-clause-value : goal.returns-in_ok-read_u32-clause-value
returns-in_ok-read_u32-clause-value c =
    let r = c.in_ok-read_u32.ensures in masked 2 (drop c.args.from c.args.bytes.now) _ _ (omega arith)
    (dropped c.args.from c.args.bytes.now c.type_inv.bytes) (grind arith)
    (r.fits.0 refl) r.value c.from-then-mark-eq0.ensures

pub returns-in_err-read_u64-clause-refused : goal.returns-in_err-read_u64-clause-refused
returns-in_err-read_u64-clause-refused c =
    search (rules, begins_none 3 (drop c.args.from c.args.bytes.now) (grind arith) (grind arith))

pub returns-in_ok-read_u64-clause-value : goal.returns-in_ok-read_u64-clause-value
returns-in_ok-read_u64-clause-value c =
    let r = c.in_ok-read_u64.ensures in masked 3 (drop c.args.from c.args.bytes.now) _ _ (omega arith)
    (dropped c.args.from c.args.bytes.now c.type_inv.bytes) (grind arith)
    (r.fits.0 refl) r.value refl
