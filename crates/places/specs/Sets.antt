-- What a set of places has.
use Rattle.std.specs.Prelude.{◌≡◌, ℕ, ◌<◌, ◌≤◌, Bool, true}
use Rattle.places.specs.Members.{member}
use Rattle.places.specs.declared.set.PlaceSet.{PlaceSet}

abbrev pub has : PlaceSet → ℕ → Bool
has s p = member s.0 p

-- a number that falls where places are taken out
abbrev pub rank : PlaceSet → ℕ
rank s = s.0

-- the set has that place, and none below it
abbrev pub Lowest : PlaceSet → ℕ → Type 0
Lowest s place = (place < 64) × (has s place ≡ true) × ((p : ℕ) → has s p ≡ true → place ≤ p)
