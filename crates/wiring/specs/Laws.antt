-- The laws of wirings.
use Rattle.std.specs.Prelude.{◌≡◌, ℕ, Bool, false, cond, ◌⊎◌, ◌↔◌, Some, None}
use Rattle.kinds.specs.declared.controller.ControllerNumber.{ControllerNumber}
use Rattle.shelf.specs.Meaning.{Name, Need, Meaning, need_at}
use Rattle.wiring.specs.declared.choice.Choice.TheVariants.{From}
use Rattle.wiring.specs.Candidates.{own}
use Rattle.wiring.specs.Conflicts.{Touches, Conflict, Consistent}
use Rattle.wiring.specs.Partial.{Decided, Known, KnownSource}
use Rattle.wiring.specs.Sources.{Source, Sourcing}
use Rattle.wiring.specs.Wirings.{In, Table, Wiring, Reaches}

-- t' has the choices of t, and perhaps more
abbrev pub Extends : Table → Table → Type 0
Extends t t' = (b k : ℕ) → Decided (t b k) → t' b k ≡ t b k

-- what is known over t is so over t', and is known there too
pub record Persists (m : Meaning) (t t' : Table) : Type 0 where
  pub known : (p : Name) (b : ℕ) → Known m t p b → Known m t' p b
  pub sources : (p : Name) (b x : ℕ) → Known m t p b → Source m t p b x ↔ Source m t' p b x
  pub touches : (b x j : ℕ) → Touches m (KnownSource m t) b x j → Touches m (Source m t') b x j
  pub known_touches : (b x j : ℕ) → Touches m (KnownSource m t) b x j → Touches m (KnownSource m t') b x j
  pub conflicts : (b x j k : ℕ) → Conflict m (KnownSource m t) b x j k → Conflict m (Source m t') b x j k
  pub known_conflicts : (b x j k : ℕ) → Conflict m (KnownSource m t) b x j k → Conflict m (KnownSource m t') b x j k

-- Persistence: what is known stays so in every wiring that extends a partial one.
abbrev pub Persistence : Type 0
Persistence = (m : Meaning) (t t' : Table) → Extends t t' → Persists m t t'

-- wires from the set lead into the set
abbrev pub Closed : (ℕ → Type 0) → Table → Type 0
Closed C t = (b k c : ℕ) → C b → t b k ≡ Some (From c) → C c

-- no need of the bundles of the set is open; own needs do not count
abbrev pub Complete : Meaning → (ℕ → Type 0) → Table → Type 0
Complete m C t = (b k : ℕ) (n : Need) → C b → need_at m b k ≡ Some n → own m b n ≡ false → Decided (t b k)

-- two ways of telling sources come to the same at b
pub record Alike (m : Meaning) (S S' : Sourcing) (b : ℕ) : Type 0 where
  pub sources : (p : Name) (x : ℕ) → S p b x ↔ S' p b x
  pub touches : (x j : ℕ) → Touches m S b x j ↔ Touches m S' b x j
  pub conflicts : (x j k : ℕ) → Conflict m S b x j k ↔ Conflict m S' b x j k

-- Exactness: on a complete wiring nothing is unknown, and known conflicts are exactly the conflicts.
pub record Exactness : Type 0 where
  pub whole : (m : Meaning) (controller : ControllerNumber) (has : ℕ → Bool) (t : Table) → Wiring m controller has t → Closed (In has) t × Complete m (In has) t
  pub known : (m : Meaning) (has : ℕ → Bool) (t : Table) → Closed (In has) t → Complete m (In has) t → (p : Name) (b : ℕ) → In has b → Known m t p b
  pub alike : (m : Meaning) (has : ℕ → Bool) (t : Table) → Closed (In has) t → Complete m (In has) t → (b : ℕ) → In has b → Alike m (KnownSource m t) (Source m t) b

-- t and t' make the same choices in the set
abbrev pub Agree : (ℕ → Type 0) → Table → Table → Type 0
Agree C t t' = (b k : ℕ) → C b → t' b k ≡ t b k

-- b and what it reaches
abbrev pub Onward : Table → ℕ → ℕ → Type 0
Onward t b c = (c ≡ b) ⊎ Reaches t b c

-- Locality: what is so at b rests on the choices of b and of what b reaches.
pub record Locality : Type 0 where
  pub whole : (m : Meaning) (t t' : Table) (b : ℕ) → Agree (Onward t b) t t' → Alike m (Source m t) (Source m t') b
  pub known : (m : Meaning) (t t' : Table) (b : ℕ) → Agree (Onward t b) t t' → (p : Name) → Known m t p b ↔ Known m t' p b
  pub partial : (m : Meaning) (t t' : Table) (b : ℕ) → Agree (Onward t b) t t' → Alike m (KnownSource m t) (KnownSource m t') b

-- Steadiness: a table that keeps the choices of a wiring leaves what its bundles reach, and what is so at them, as it is.
pub record Steadiness : Type 0 where
  pub reach : (m : Meaning) (controller : ControllerNumber) (has : ℕ → Bool) (t t' : Table) → Wiring m controller has t → Agree (In has) t t' → (b c : ℕ) → In has b → Reaches t b c ↔ Reaches t' b c
  pub alike : (m : Meaning) (controller : ControllerNumber) (has : ℕ → Bool) (t t' : Table) → Wiring m controller has t → Agree (In has) t t' → (b : ℕ) → In has b → Alike m (Source m t) (Source m t') b

-- a table without the choices of the bundles that are not in a set
abbrev pub cut : (ℕ → Bool) → Table → Table
cut has t b k = cond (has b) (t b k) None

-- Restriction: cut down to any set of its bundles that wires do not leave, a consistent wiring is a consistent wiring.
pub record Restriction : Type 0 where
  pub part : (m : Meaning) (controller : ControllerNumber) (has part : ℕ → Bool) (t t' : Table) → Consistent m controller has t →
      ((b : ℕ) → In part b → In has b) → Closed (In part) t → Agree (In part) t t' → Consistent m controller part t'
  pub cuts : (has : ℕ → Bool) (t : Table) → Agree (In has) t (cut has t)
