-- Numbers for packages. Exports are counted through, 16 to a place, and the number of a package is the first export of it.
use Rattle.std.specs.Prelude.{◌≡◌, ℕ, ◌/◌, ◌%◌, ◌<◌, Some, Option, MatchOption}
use Rattle.std.specs.Option.{option_map}
use Rattle.shelf.specs.Looked.{Exports}
use Rattle.shelf.specs.Meaning.{Name, Meaning, export_at}

-- the package of export j of a place
abbrev pub package_at : Meaning → ℕ → ℕ → Option Name
package_at m place j = option_map (λ e. e.name) (export_at m place j)

-- export n, counted through, is of the package q
abbrev pub ExportOf : Meaning → ℕ → Name → Type 0
ExportOf m n q = package_at m (n / 16) (n % 16) ≡ Some q

-- n is the number of q: export n is of q, and none before it is; so equal numbers are those of equal names
pub record NumberOf (m : Meaning) (q : Name) (n : ℕ) : Type 0 where
  pub named : ExportOf m n q
  pub least : (i : ℕ) → i < n → ExportOf m i q → ⊥

-- the number of a package that somebody exports; none where there is no name or nobody exports it
abbrev pub Numbering : Meaning → Option Name → Option ℕ → Type 0
Numbering m o r = MatchOption r ((q : Name) → o ≡ Some q → (n : ℕ) → ExportOf m n q → ⊥) (λ n. (q : Name) × (o ≡ Some q) × NumberOf m q n)

-- place x exports the package with the number n
abbrev pub ExportsNumber : Meaning → ℕ → ℕ → Type 0
ExportsNumber m x n = (q : Name) × NumberOf m q n × Exports m x q
