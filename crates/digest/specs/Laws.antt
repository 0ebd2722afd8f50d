-- What numbers of packages are good for.
use Rattle.std.specs.Prelude.{◌≡◌, ℕ, ◌<◌, ◌↔◌}
use Rattle.shelf.specs.Looked.{Exports}
use Rattle.shelf.specs.Meaning.{Name, Meaning, WellFormed}
use Rattle.digest.specs.Packages.{NumberOf}

-- two packages have one number exactly if they have one name, and every package that is exported has a number below 1,024
pub record Distinct : Type 0 where
  pub same : (m : Meaning) (p q : Name) (n k : ℕ) → NumberOf m p n → NumberOf m q k → (n ≡ k) ↔ (p ≡ q)
  pub small : (m : Meaning) (q : Name) (n : ℕ) → WellFormed m → NumberOf m q n → n < 1024
  pub some : (m : Meaning) (place : ℕ) (q : Name) → WellFormed m → Exports m place q → (n : ℕ) × NumberOf m q n
