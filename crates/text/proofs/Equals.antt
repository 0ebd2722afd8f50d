-- The test of equality decides it.
use Rattle.std.proofs.Common.{◌≡◌, ℕ, Bool, eqb, List, [], ◌∷◌, Decides, refl, arith}
use Rattle.std.proofs.lemmas.Bool.{and_parts, and_from, eqb-true, eq-eqb}
use Rattle.std.proofs.lemmas.Bool.Decides.{same_from_decides}
use Rattle.text.specs.Bytes.{equal}

pub equal-decides : (xs ys : List ℕ) → Decides (equal xs ys) (xs ≡ ys)
equal-decides [] [] = (λ _. refl, λ _. refl)
equal-decides [] (y ∷ ys) = (λ e. let z : ◌≡◌ {A = ℕ} 0 1 = cc in absurd (omega arith), λ e. let z : ◌≡◌ {A = ℕ} 0 1 = cc in absurd (omega arith))
equal-decides (x ∷ xs) [] = (λ e. let z : ◌≡◌ {A = ℕ} 0 1 = cc in absurd (omega arith), λ e. let z : ◌≡◌ {A = ℕ} 0 1 = cc in absurd (omega arith))
equal-decides (x ∷ xs) (y ∷ ys) =
    let more = equal-decides xs ys in (
      λ e. let both = and_parts (eqb x y) (equal xs ys) e in let here = eqb-true x y both.0 in let rest = more.0 both.1 in cc,
      λ e. let here : x ≡ y = cc in let rest : xs ≡ ys = cc in and_from (eqb x y) (equal xs ys) (eq-eqb x y here) (more.1 rest),
    )

pub equal_is : (xs ys : List ℕ) (r : Bool) → Decides r (xs ≡ ys) → r ≡ equal xs ys
equal_is xs ys r d = same_from_decides r (equal xs ys) d (equal-decides xs ys)
