-- The rules of fitting and of candidates as relations, for those who read; the law at the end says that the tests come to them.
use Rattle.std.specs.Prelude.{◌≡◌, ℕ, ◌↔◌, Some, Decides}
use Rattle.kinds.specs.Controller.{before}
use Rattle.kinds.specs.Range.{Holds}
use Rattle.kinds.specs.Version.{lower}
use Rattle.kinds.specs.declared.controller.ControllerNumber.{ControllerNumber}
use Rattle.kinds.specs.declared.version.Version.{Version}
use Rattle.shelf.specs.Looked.{Own}
use Rattle.shelf.specs.Meaning.{Name, Export, Need, Bundle, Meaning, WellFormed, bundle_at, export_at, need_at}
use Rattle.shelf.specs.declared.need.NeedKind.{NeedKind}
use Rattle.shelf.specs.declared.need.NeedKind.TheVariants.{Import, Require}
use Rattle.wiring.specs.Candidates.{fits, own_at, offered}

-- there is a bundle at c, and its controller range holds the number
abbrev pub Fits : Meaning → ControllerNumber → ℕ → Type 0
Fits m controller c = (x : Bundle) × (bundle_at m c ≡ Some x) × Holds before x.controllers controller

-- c exports that package at that version; or c has that name and that version
abbrev pub Has : NeedKind → Meaning → ℕ → Name → Version → Type 0
Has Import m c name v = (j : ℕ) × (e : Export) × (export_at m c j ≡ Some e) × (e.name ≡ name) × (e.version ≡ v)
Has (Require visibility) m c name v = (x : Bundle) × (bundle_at m c ≡ Some x) × (x.name ≡ name) × (x.version ≡ v)

-- c is another fitting bundle, and what it has for the need n of b is of a version in the need's range
pub record Offers (m : Meaning) (controller : ControllerNumber) (b : ℕ) (n : Need) (c : ℕ) (v : Version) : Type 0 where
  pub other : c ≡ b → ⊥
  pub fitting : Fits m controller c
  pub has : Has n.kind m c n.name v
  pub ranged : Holds lower n.range v

-- c is a candidate for need k of b
abbrev pub Candidate : Meaning → ControllerNumber → ℕ → ℕ → ℕ → Type 0
Candidate m controller b k c = (n : Need) × (v : Version) × (need_at m b k ≡ Some n) × Offers m controller b n c v

-- The tests come to the relations, on every meaning that keeps the limits.
pub record Rules : Type 0 where
  pub fitting : (m : Meaning) (controller : ControllerNumber) (c : ℕ) → Decides (fits m controller c) (Fits m controller c)
  pub owning : (m : Meaning) (b k : ℕ) → Decides (own_at m b k) (Own m b k)
  pub offering : (m : Meaning) (controller : ControllerNumber) (b : ℕ) (n : Need) (c : ℕ) (v : Version) → WellFormed m → (offered m controller b n c ≡ Some v) ↔ Offers m controller b n c v
