-- Which exports touch a bundle, and where they conflict with what it sees. S tells the sources.
use Rattle.std.specs.Prelude.{◌≡◌, ℕ, Bool, ◌↔◌, Some}
use Rattle.kinds.specs.declared.controller.ControllerNumber.{ControllerNumber}
use Rattle.shelf.specs.Looked.{ExportsAt}
use Rattle.shelf.specs.Meaning.{Name, Meaning, used_at}
use Rattle.wiring.specs.Sources.{Source, Sourcing, Sees}
use Rattle.wiring.specs.Wirings.{In, Table, Wiring}

-- export j of x touches b: x is a source of its package at b, or it is of a package that a touching export lists, from a source there
pub data Touches (m : Meaning) (S : Sourcing) (b : ℕ) : ℕ → ℕ → Type 0 where
  direct : {x j : ℕ} (p : Name) → ExportsAt m x j p → S p b x → Touches m S b x j
  through : {x j y i : ℕ} (k : ℕ) (q : Name) → Touches m S b x j → used_at m x j k ≡ Some q → S q x y → ExportsAt m y i q → Touches m S b y i

-- export j of x touches b and lists q as its use k, and b and x both see q, from different sets of sources
pub record Conflict (m : Meaning) (S : Sourcing) (b x j k : ℕ) : Type 0 where
  pub about : Name
  pub touches : Touches m S b x j
  pub lists : used_at m x j k ≡ Some about
  pub here : Sees S about b
  pub there : Sees S about x
  pub differ : ((y : ℕ) → S about b y ↔ S about x y) → ⊥

-- a wiring is consistent if no bundle in it has a conflict
pub record Consistent (m : Meaning) (controller : ControllerNumber) (has : ℕ → Bool) (t : Table) : Type 0 where
  pub wiring : Wiring m controller has t
  pub free : (b x j k : ℕ) → In has b → Conflict m (Source m t) b x j k → ⊥
