use Rattle.std.proofs.Common.{◌≡◌, ◌≢◌, ◌<◌, ◌^◌, ◌++◌, ℕ, List, [], length, refl}
use Rattle.octets.specs.Bytes.{network}
use Rattle.octets_lists.specs.NameLists.{AreNames, nothing, another}

-- names that aren't the empty list are a name and other names
pub first_name : (left : List ℕ) → AreNames left → left ≢ []
    → (name others : List ℕ) × (length name < 2 ^ 8) × AreNames others
    × (left ≡ network 1 (length name) ++ (name ++ others))
first_name _ nothing some = absurd (some refl)
first_name _ (another {others} name small are) some = (name, others, small, are, refl)
