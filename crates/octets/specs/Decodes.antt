-- What a Huffman decode returns, where it leaves the offset, and what it counts.
use Rattle.std.specs.Prelude.{◌≡◌, ℕ, ◌+◌, ◌-◌, ◌*◌, ◌^◌, ◌<◌, ◌≤◌, List, [], length, min}
use Rattle.std.specs.Prelude.{vec_len, vec_capacity, IfOk, OnOk, IsOkAnd, Result, Ok, Err, Vec, ⊤}
use Rattle.octets.specs.declared.error.DecodeError.{DecodeError}
use Rattle.octets.specs.declared.error.DecodeError.TheVariants.{Short, Memory}
use Rattle.octets.specs.Octets.{Octets}
use Rattle.octets.specs.Cursor.{bytes, rest, Passes, IsUnchanged}
use Rattle.octets.specs.Requests.{Granted, Refused}
use Rattle.octets_code.specs.Answers.{IsAnswer, IsRefusal, AreSteps}
use Rattle.octets_code.specs.Texts.{text, AreBytes}

-- P holds if the decode failed with Short
abbrev pub OnShort : {A : Type 0} → Result A DecodeError → Type 0 → Type 0
OnShort (Ok v) P = ⊤
OnShort (Err (Short e)) P = P
OnShort (Err (Memory e)) P = ⊤

-- P holds if the decode failed because an allocation did
abbrev pub OnMemory : {A : Type 0} → Result A DecodeError → Type 0 → Type 0
OnMemory (Ok v) P = ⊤
OnMemory (Err (Short e)) P = ⊤
OnMemory (Err (Memory e)) P = P

-- P holds unless the decode failed because an allocation did
abbrev pub UnlessMemory : {A : Type 0} → Result A DecodeError → Type 0 → Type 0
UnlessMemory (Ok v) P = P
UnlessMemory (Err (Short e)) P = P
UnlessMemory (Err (Memory e)) P = ⊤

-- the decode returned the value v, or an allocation failed
abbrev pub Gives : {A : Type 0} → Result (Vec ℕ A) DecodeError → List ℕ → Type 0
Gives (Ok w) v = w.items ≡ v
Gives (Err (Short e)) v = ⊥
Gives (Err (Memory e)) v = ⊤

-- P holds of the value whose text t is, if t is the text of a value within the limit m
abbrev pub WhereAnswer : List ℕ → ℕ → (List ℕ → Type 0) → Type 0
WhereAnswer t m P = (v : List ℕ) → IsAnswer t m v → P v

-- P holds of the value whose text t is, if t is the text of a value
abbrev pub WhereText : List ℕ → (List ℕ → Type 0) → Type 0
WhereText t P = (v : List ℕ) → AreBytes v → t ≡ text v → P v

-- the remaining bytes are refused under the limit m, and the cursor has passed exactly the bytes that
-- such a refusal passes
abbrev pub Refuses : Octets → Octets → ℕ → Type 0
Refuses old new m = (n : ℕ) × IsRefusal (rest old) m n × Passes old new n

-- How a decode under the limit m ends: where it leaves the offset, and when it allocates how much
-- memory.
pub record EndsDecode {A : Type 0} (old new : Octets) (m : ℕ) (r : Result (Vec ℕ A) DecodeError) : Type 0 where
  -- where the offset is
  pub passed : OnOk r (Passes old new (length (rest old)))
  pub refused : OnShort r (Refuses old new m)
  pub unread : OnMemory r (IsUnchanged old new)
  pub same_bytes : bytes new ≡ bytes old
  -- an allocation can only fail if the decode asks for memory at all
  pub reserved : OnMemory r (0 < min (2 * length (rest old)) m)
  -- it asks for this number of bytes, and fails with Memory exactly if this request is refused
  pub granted : UnlessMemory r (Granted (min (2 * length (rest old)) m))
  pub not_granted : OnMemory r (Refused (min (2 * length (rest old)) m))
  pub empty : rest old ≡ [] → IsOkAnd r (λ v. v.items ≡ [])
  pub small : IfOk r (λ v. vec_len v ≤ min (2 * length (rest old)) m)
  -- the capacity is twice the number of these bytes, or the limit if that is smaller
  pub capacity : IfOk r (λ v. vec_capacity v ≡ min (2 * length (rest old)) m)

-- the count grew by the steps of a decode of t under the limit m
abbrev pub Counts : List ℕ → ℕ → ℕ → ℕ → Type 0
Counts t m old new = (n : ℕ) × AreSteps t m n × (new ≡ old + n)

-- the limit of a decode that has none
abbrev pub no_limit : ℕ
no_limit = 2 ^ 64 - 1
