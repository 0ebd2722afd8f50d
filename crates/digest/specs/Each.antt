-- What each item of an array says.
use Rattle.std.specs.Prelude.{◌≡◌, ℕ, List, length, Some}
use Rattle.std.specs.List.{slice_get}

-- xs has n items, and what P says of an index holds of the item there
pub record Each {A : Type 0} (n : ℕ) (P : ℕ → A → Type 0) (xs : List A) : Type 0 where
  pub long : length xs ≡ n
  pub at : (i : ℕ) (x : A) → slice_get xs i ≡ Some x → P i x
