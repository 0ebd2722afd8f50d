-- Who exports what.
use Rattle.std.specs.Prelude.{◌≡◌, ℕ, ◌<◌, true, ◌⊎◌, List, Some, Option, Decides, slice_index_or}
use Rattle.std.specs.List.{slice_get}
use Rattle.places.specs.Sets.{has}
use Rattle.places.specs.declared.set.PlaceSet.{PlaceSet}
use Rattle.shelf.specs.Meaning.{Meaning}
use Rattle.digest.specs.Packages.{ExportsNumber}
use Rattle.digest.specs.declared.provider.ExportDigest.{ExportDigest}
use Rattle.digest.specs.declared.provider.ProviderDigest.{ProviderDigest}

-- for each number the places that export that package
abbrev pub Exporting : Meaning → List PlaceSet → Type 0
Exporting m sets = (n x : ℕ) (z : PlaceSet) → n < 1024 → Decides (has (slice_index_or sets n z) x) (ExportsNumber m x n)

-- one of the exports before the bound has the number n
abbrev pub Lists : List (Option ExportDigest) → ℕ → ℕ → Type 0
Lists exports bound n = (j : ℕ) × (d : ExportDigest) × (j < bound) × (slice_get exports j ≡ Some (Some d)) × (d.number ≡ n)

-- the place is added to the sets of the numbers that its exports before the bound have
abbrev pub Added : List PlaceSet → ℕ → List (Option ExportDigest) → ℕ → List PlaceSet → Type 0
Added old place exports bound new =
    (n x : ℕ) (z : PlaceSet) → n < 1024 → Decides (has (slice_index_or new n z) x) ((has (slice_index_or old n z) x ≡ true) ⊎ ((x ≡ place) × Lists exports bound n))

-- the sets of the places before the bound
abbrev pub Gathered : List (Option ProviderDigest) → ℕ → List PlaceSet → Type 0
Gathered providers bound sets =
    (n x : ℕ) (z : PlaceSet) → n < 1024 → Decides (has (slice_index_or sets n z) x) ((p : ProviderDigest) × (x < bound) × (slice_get providers x ≡ Some (Some p)) × Lists p.exports 16 n)
