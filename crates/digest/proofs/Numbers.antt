-- What is common to all numbers of packages.
use Rattle.std.proofs.Common.{◌≡◌, ℕ, zero, suc, ◌+◌, ◌/◌, ◌%◌, ◌<◌, true, false, ◌⊎◌, IfSome, Some, None, Option, refl, ap, inl, inr, arith, below_more}
use Rattle.std.specs.Str.{bytes_eq}
use Rattle.std.proofs.lemmas.Option.{same_Some}
use Rattle.std.proofs.lemmas.Slice.Eq.{bytes_eq-Decides}
use Rattle.std.proofs.lemmas.Bool.{both_ways, cases_Bool, cases_order}
use Rattle.shelf.specs.Meaning.{Name, Meaning, WellFormed}
use Rattle.digest.specs.Index.{Finds}
use Rattle.digest.specs.Packages.{ExportOf, NumberOf, Numbering, package_at}
use Rattle.digest.proofs.Past.{place_small}

pub same_package : (m : Meaning) (n : ℕ) (p q : Name) → ExportOf m n p → ExportOf m n q → p ≡ q
same_package m n p q a b = cc

pub number_small : (m : Meaning) → WellFormed m → (n : ℕ) (q : Name) → NumberOf m q n → n < 1024
number_small m w n q f = let h = place_small m w (n / 16) (n % 16) q f.named in omega arith

-- whether an export is of a package can be told
is_of : (o : Option Name) (q : Name) → (o ≡ Some q) ⊎ (o ≡ Some q → ⊥)
is_of None q = inr (λ e. cc)
is_of (Some p) q = go (cases_Bool (bytes_eq p q))
  where
    go : (bytes_eq p q ≡ true) ⊎ (bytes_eq p q ≡ false) → (Some p ≡ Some q) ⊎ (Some p ≡ Some q → ⊥)
    go (inl t) = inl (ap Some ((bytes_eq-Decides p q).0 t))
    go (inr f) = inr (λ e. let same : p ≡ q = cc in both_ways (bytes_eq p q) f ((bytes_eq-Decides p q).1 same))

module _ (m : Meaning) (q : Name) where
  -- the first of the exports below a bound, if one of them is of the package
  below : (i : ℕ) → ((n : ℕ) × (n < i) × NumberOf m q n) ⊎ ((k : ℕ) → k < i → ExportOf m k q → ⊥)
  below zero = inr (λ k lt x. absurd (omega arith))
  below (suc i) = go (below i) (is_of (package_at m (i / 16) (i % 16)) q)
    where
      go : ((n : ℕ) × (n < i) × NumberOf m q n) ⊎ ((k : ℕ) → k < i → ExportOf m k q → ⊥) → ExportOf m i q ⊎ (ExportOf m i q → ⊥) → ((n : ℕ) × (n < suc i) × NumberOf m q n) ⊎ ((k : ℕ) → k < suc i → ExportOf m k q → ⊥)
      go (inl (n, lt, f)) here = inl (n, omega arith, f)
      go (inr none) (inl here) = inl (i, omega arith, record { named = here; least = none })
      go (inr none) (inr not) = inr (λ k lt. below_more (λ k. ExportOf m k q → ⊥) i none not k (omega arith))

  -- a package that an export is of has a number, which is not above that export
  pub some_number : (i : ℕ) → ExportOf m i q → (n : ℕ) × (n < i + 1) × NumberOf m q n
  some_number i x = elim (below (i + 1)) [
    | inl found ↦ found
    | inr none ↦ absurd (none i (omega arith) x)
  ]

  pub one_number : (n k : ℕ) → NumberOf m q n → NumberOf m q k → n ≡ k
  one_number n k f g = elim (cases_order n k) [
    | inl e ↦ e
    | inr (inl l) ↦ absurd (g.least n l f.named)
    | inr (inr l) ↦ absurd (f.least k l g.named)
  ]

  -- a package with no number has no export
  pub numberless : (bound : ℕ) → ((i : ℕ) → i < bound → NumberOf m q i → ⊥) → (i : ℕ) → i < bound → ExportOf m i q → ⊥
  numberless bound never i lt x = let (n, l, f) = some_number i x in never n (omega arith) f

pub numbering : (m : Meaning) → WellFormed m → (q : Name) (r : Option ℕ) → Finds m 1024 q r → Numbering m (Some q) r
numbering m w q None never = λ p e n x. numberless m q 1024 never n (let h = place_small m w (n / 16) (n % 16) p x in omega arith) (let s = same_Some q p e in rw s x)
numbering m w q (Some n) (lt, f) = (q, refl, f)

pub numbering_small : (m : Meaning) → WellFormed m → (o : Option Name) (r : Option ℕ) → Numbering m o r → IfSome r (λ n. n < 1024)
numbering_small m w o None h = tt
numbering_small m w o (Some n) (q, e, f) = number_small m w n q f
