-- What is looked up in a meaning.
use Rattle.std.specs.Prelude.{◌≡◌, ℕ, true, Some, Option, MatchOption}
use Rattle.std.specs.Option.{option_map}
use Rattle.shelf.specs.Meaning.{Name, Need, Meaning, name_at, export_at, need_at, is_import}

-- there is a bundle of that name at the place
abbrev pub Named : Meaning → ℕ → Name → Type 0
Named m place name = name_at m place ≡ Some name

-- export j of the place is of that package
abbrev pub ExportsAt : Meaning → ℕ → ℕ → Name → Type 0
ExportsAt m place j name = option_map (λ e. e.name) (export_at m place j) ≡ Some name

abbrev pub Exports : Meaning → ℕ → Name → Type 0
Exports m place name = (j : ℕ) × ExportsAt m place j name

-- export j of the place is of that package, and no other is
abbrev pub Only : Meaning → ℕ → Name → ℕ → Type 0
Only m place name j = ExportsAt m place j name × ((i : ℕ) → ExportsAt m place i name → i ≡ j)

-- the answer is that export, or none where no export is of that package
abbrev pub Found : Meaning → ℕ → Name → Option ℕ → Type 0
Found m place name r = MatchOption r (Exports m place name → ⊥) (Only m place name)

-- need k of the place is an import of a package that the bundle there exports itself
abbrev pub Own : Meaning → ℕ → ℕ → Type 0
Own m place k = (n : Need) × (need_at m place k ≡ Some n) × (is_import n.kind ≡ true) × Exports m place n.name
