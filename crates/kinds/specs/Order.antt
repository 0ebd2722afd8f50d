-- Values that stand in an order.
use Rattle.std.specs.Prelude.{◌≡◌, Bool, true, false, ◌⊎◌, ◌≢◌}
use Rattle.std.specs.declared.cmp.Ordering.{Ordering}
use Rattle.std.specs.Ordering.{is_lt}

-- whether the first of two values is below the second, by what their order answers
abbrev pub below_by : {K : Type 0} → (K → K → Ordering) → K → K → Bool
below_by cmp x y = is_lt (cmp x y)

-- either the two are equal and neither is below the other, or they differ and exactly one is below
abbrev pub Trichotomy : {K : Type 0} → (K → K → Bool) → K → K → Type 0
Trichotomy below x y =
    ((x ≡ y) × (below x y ≡ false) × (below y x ≡ false))
    ⊎ ((x ≢ y) × (((below x y ≡ true) × (below y x ≡ false)) ⊎ ((below x y ≡ false) × (below y x ≡ true))))
