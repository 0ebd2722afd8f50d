-- Flags made by a test at each place.
use Rattle.std.proofs.Common.{◌≡◌, ℕ, zero, suc, ◌+◌, ◌<◌, ◌≤◌, Bool, false, List, get_or, inl, inr, arith}
use Rattle.std.specs.Array.{IsFromFnResultFrom, IsFromFnResult}
use Rattle.std.specs.Fn.{Mut, Called}
use Rattle.std.proofs.lemmas.Bool.{cases_eq}

module _ {F : Type 0} (g : Mut F (ℕ × Unit {0}) Bool) (test : ℕ → Bool) (f : F) (n : ℕ)
    (call : (i : ℕ) (y : Bool) (q : F) → Called g f (i, tt) y q → (y ≡ test i) × (q ≡ f)) where
  from : (ys : List Bool) (i k : ℕ) → IsFromFnResultFrom g f ys i k → (j : ℕ) (z : Bool) → i ≤ j → j < i + k → get_or ys j z ≡ test j
  from ys i zero h j z a b = absurd (omega arith)
  from ys i (suc k) (q, y, at, c, rest) j z a b =
      let (here, same) = call i y q c in
      elim (cases_eq j i) [
        | inl e ↦ rw (e, at.1 z) here
        | inr ne ↦ from ys (i + 1) k (rw same at rest) j z (omega arith) (omega arith)
      ]

  pub flags_made : (ys : List Bool) → IsFromFnResult g f ys n → (j : ℕ) → j < n → get_or ys j false ≡ test j
  flags_made ys h j lt = from ys 0 n h.each j false (omega arith) (omega arith)
