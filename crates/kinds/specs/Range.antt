-- Ranges over an ordered kind, and which values they hold.
use Rattle.std.specs.Prelude.{◌≡◌, Bool, true, false, not, ◌&&◌, ◌⊎◌}
use Rattle.kinds.specs.declared.range.End.{End}
use Rattle.kinds.specs.declared.range.End.TheVariants.{Included, Excluded}
use Rattle.kinds.specs.declared.range.Range.{Range}
use Rattle.kinds.specs.declared.range.Range.TheVariants.{AtLeast, Between}

-- the value of an end, and whether it is included
abbrev pub value_of : {K : Type 0} → End K → K
value_of (Included value) = value
value_of (Excluded value) = value

abbrev pub is_included : {K : Type 0} → End K → Bool
is_included (Included value) = true
is_included (Excluded value) = false

-- above the end or, where the end is included, the end itself
abbrev pub Above : {K : Type 0} → (K → K → Bool) → End K → K → Type 0
Above below end v = (below (value_of end) v ≡ true) ⊎ ((is_included end ≡ true) × (v ≡ value_of end))

-- below the end or, where the end is included, the end itself
abbrev pub Under : {K : Type 0} → (K → K → Bool) → End K → K → Type 0
Under below end v = (below v (value_of end) ≡ true) ⊎ ((is_included end ≡ true) × (v ≡ value_of end))

-- that value or above; or from a floor up to a ceiling
abbrev pub Holds : {K : Type 0} → (K → K → Bool) → Range K → K → Type 0
Holds below (AtLeast floor) v = (below floor v ≡ true) ⊎ (v ≡ floor)
Holds below (Between floor ceiling) v = Above below floor v × Under below ceiling v

-- The same as a test, for the definitions that compute with it.
abbrev pub above : {K : Type 0} → (K → K → Bool) → End K → K → Bool
above below (Included end) v = not (below v end)
above below (Excluded end) v = below end v

abbrev pub under : {K : Type 0} → (K → K → Bool) → End K → K → Bool
under below (Included end) v = not (below end v)
under below (Excluded end) v = below v end

abbrev pub holding : {K : Type 0} → (K → K → Bool) → Range K → K → Bool
holding below (AtLeast floor) v = not (below v floor)
holding below (Between floor ceiling) v = above below floor v && under below ceiling v
