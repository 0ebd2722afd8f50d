-- Arrays made by a call at each index.
use Rattle.std.proofs.Common.{◌≡◌, ℕ, zero, suc, ◌+◌, ◌<◌, ◌≤◌, List, get_or, inl, inr, arith}
use Rattle.std.specs.Array.{IsFromFnResultFrom, IsFromFnResult}
use Rattle.std.specs.Fn.{Mut, Called}
use Rattle.std.proofs.lemmas.Bool.{cases_eq}
use Rattle.std.proofs.lemmas.Option.{slice_get_within, get_or_from_slice_get}
use Rattle.digest.specs.Each.{Each}

module _ {F B : Type 0} (g : Mut F (ℕ × Unit {0}) B) (P : ℕ → B → Type 0) (f : F) (n : ℕ)
    (call : (i : ℕ) (y : B) (q : F) → Called g f (i, tt) y q → P i y × (q ≡ f)) where
  from : (ys : List B) (i k : ℕ) → IsFromFnResultFrom g f ys i k → (j : ℕ) (z : B) → i ≤ j → j < i + k → P j (get_or ys j z)
  from ys i zero h j z a b = absurd (omega arith)
  from ys i (suc k) (q, y, at, c, rest) j z a b =
      let (here, same) = call i y q c in
      elim (cases_eq j i) [
        | inl e ↦ rw (e, at.1 z) here
        | inr ne ↦ from ys (i + 1) k (rw same at rest) j z (omega arith) (omega arith)
      ]

  pub made_each : (ys : List B) → IsFromFnResult g f ys n → Each n P ys
  made_each ys h = record {
    long = h.long;
    at = λ i y e.
        let l = h.long in
        let lt = slice_get_within ys i y e in
        let here = from ys 0 n h.each i y (omega arith) (omega arith) in
        rw (get_or_from_slice_get ys i y y e) at here;
  }
