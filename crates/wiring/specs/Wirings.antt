-- Wirings: which bundles, and what is chosen for their needs.
use Rattle.std.specs.Prelude.{◌≡◌, ℕ, Bool, true, false, IsSomeAnd, IfSome, Some, None, Option}
use Rattle.kinds.specs.declared.controller.ControllerNumber.{ControllerNumber}
use Rattle.shelf.specs.Meaning.{Need, Meaning, need_at}
use Rattle.shelf.specs.declared.need.Resolution.TheVariants.{Optional}
use Rattle.wiring.specs.declared.choice.Choice.{Choice}
use Rattle.wiring.specs.declared.choice.Choice.TheVariants.{Unwired, From}
use Rattle.wiring.specs.Candidates.{fits, own, candidate}

-- what is chosen for each need of each bundle; none while that need is open
abbrev pub Table : Type 0
Table = ℕ → ℕ → Option Choice

-- a bundle is in a set
abbrev pub In : (ℕ → Bool) → ℕ → Type 0
In has b = has b ≡ true

-- what may be chosen for the need n of b: a candidate in the set or, if the need is optional, unwired
abbrev pub Legal : Meaning → ControllerNumber → (ℕ → Bool) → ℕ → Need → Choice → Type 0
Legal m controller has b n Unwired = n.resolution ≡ Optional
Legal m controller has b n (From c) = In has c × (candidate m controller b n c ≡ true)

-- where a choice is kept, it is unwired
abbrev pub Bare : Option Choice → Type 0
Bare o = IfSome o (λ choice. choice ≡ Unwired)

-- A set of fitting bundles with one choice for each of their needs that is not own. A choice kept for an own need, or for a need
-- that the shelf does not have, is unwired.
pub record Wiring (m : Meaning) (controller : ControllerNumber) (has : ℕ → Bool) (t : Table) : Type 0 where
  pub fitting : (b : ℕ) → In has b → fits m controller b ≡ true
  pub chosen : (b k : ℕ) (n : Need) → In has b → need_at m b k ≡ Some n → own m b n ≡ false → IsSomeAnd (t b k) (Legal m controller has b n)
  pub owned : (b k : ℕ) (n : Need) → In has b → need_at m b k ≡ Some n → own m b n ≡ true → Bare (t b k)
  pub lacking : (b k : ℕ) → In has b → need_at m b k ≡ None → Bare (t b k)

-- the least set that has each a with S a, and with each a that it has each b with E a b
pub data Least (S : ℕ → Type 0) (E : ℕ → ℕ → Type 0) : ℕ → Type 0 where
  seed : {a : ℕ} → S a → Least S E a
  step : {a b : ℕ} → Least S E a → E a b → Least S E b

-- a wire leads from b to c
abbrev pub Wire : Table → ℕ → ℕ → Type 0
Wire t b c = (k : ℕ) × (t b k ≡ Some (From c))

-- b reaches c if wires lead there in one or more steps
abbrev pub Reaches : Table → ℕ → ℕ → Type 0
Reaches t b c = Least (Wire t b) (Wire t) c
