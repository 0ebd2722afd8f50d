-- How it is told whether plain values keep the limits: for inner functions, no public contract cites this.
use Rattle.std.specs.Prelude.{◌≡◌, ℕ, ◌<◌, true, false, ◌⊎◌, List, Some}
use Rattle.std.specs.List.{slice_get}
use Rattle.shelf.specs.Meaning.{Export, Need, is_import}

-- no item bars a later one, by a relation of what may not stand before what
abbrev pub Clear : {T : Type 0} → (T → T → Type 0) → List T → Type 0
Clear {T} barred xs = (i j : ℕ) (x y : T) → i < j → slice_get xs i ≡ Some x → slice_get xs j ≡ Some y → barred x y → ⊥

-- no package twice
abbrev pub SameExport : Export → Export → Type 0
SameExport e f = e.name ≡ f.name

-- no name twice among imports or among requires, and no import after a require
abbrev pub BarsNeed : Need → Need → Type 0
BarsNeed a b =
    ((is_import a.kind ≡ is_import b.kind) × (a.name ≡ b.name))
    ⊎ ((is_import a.kind ≡ false) × (is_import b.kind ≡ true))
