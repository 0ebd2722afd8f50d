-- From which bundles a bundle sees a package.
use Rattle.std.specs.Prelude.{◌≡◌, ℕ, false, ◌⊎◌, Some}
use Rattle.shelf.specs.Looked.{Exports}
use Rattle.shelf.specs.Meaning.{Name, Need, Meaning, need_at, is_import}
use Rattle.shelf.specs.declared.need.NeedKind.TheVariants.{Import, Require}
use Rattle.shelf.specs.declared.need.Visibility.TheVariants.{Reexport}
use Rattle.wiring.specs.declared.choice.Choice.TheVariants.{From}
use Rattle.wiring.specs.Candidates.{own}
use Rattle.wiring.specs.Wirings.{Table, Least}

-- need k of b is an import of p that takes a choice
abbrev pub Importing : Meaning → ℕ → ℕ → Name → Type 0
Importing m b k p = (n : Need) × (need_at m b k ≡ Some n) × (n.kind ≡ Import) × (n.name ≡ p) × (own m b n ≡ false)

-- need k of b is a require, private or not
abbrev pub Requiring : Meaning → ℕ → ℕ → Type 0
Requiring m b k = (n : Need) × (need_at m b k ≡ Some n) × (is_import n.kind ≡ false)

-- need k of b is a re-export require
abbrev pub Reexporting : Meaning → ℕ → ℕ → Type 0
Reexporting m b k = (n : Need) × (need_at m b k ≡ Some n) × (n.kind ≡ Require Reexport)

-- b has an import of p, a require, a re-export require, that is wired to c
abbrev pub Imports : Meaning → Table → ℕ → Name → ℕ → Type 0
Imports m t b p c = (k : ℕ) × Importing m b k p × (t b k ≡ Some (From c))

abbrev pub Requires : Meaning → Table → ℕ → ℕ → Type 0
Requires m t b c = (k : ℕ) × Requiring m b k × (t b k ≡ Some (From c))

abbrev pub Reexports : Meaning → Table → ℕ → ℕ → Type 0
Reexports m t b c = (k : ℕ) × Reexporting m b k × (t b k ≡ Some (From c))

-- the providers of b's wired requires, and what these reach through wired re-export requires
abbrev pub Brought : Meaning → Table → ℕ → ℕ → Type 0
Brought m t b c = Least (Requires m t b) (Reexports m t) c

-- which bundles are sources of a package at a bundle
abbrev pub Sourcing : Type 1
Sourcing = Name → ℕ → ℕ → Type 0

-- the sources of p at b: the provider of b's wired import of p alone; otherwise the exporters of p among b and what it is brought
abbrev pub Source : Meaning → Table → Sourcing
Source m t p b x = Imports m t b p x ⊎ (((c : ℕ) → Imports m t b p c → ⊥) × ((x ≡ b) ⊎ Brought m t b x) × Exports m x p)

-- b sees p if there is a source
abbrev pub Sees : Sourcing → Name → ℕ → Type 0
Sees S p b = (x : ℕ) × S p b x
