-- What holds of each item of a list, and at each index of a list that a function was mapped over.
use Rattle.std.proofs.Common.{◌≡◌, ℕ, zero, suc, Bool, false, All, List, [], ◌∷◌, map, IfSome, Some, None, Decides, Option, refl, sym, ap, ◌∙◌, arith}
use Rattle.std.specs.Option.{option_map}
use Rattle.std.specs.List.{slice_get}
use Rattle.std.proofs.lemmas.Bool.{both_ways}
use Rattle.std.proofs.lemmas.Option.{slice_get-map}

pub decides_no : {P : Type 0} (r : Bool) → r ≡ false → (P → ⊥) → Decides r P
decides_no r e never = (λ t. absurd (both_ways r e t), λ p. absurd (never p))

pub nth_mapped : {X Y : Type 0} (f : X → Y) (xs : List X) (k : ℕ) (x : X) → slice_get xs k ≡ Some x → slice_get (map f xs) k ≡ Some (f x)
nth_mapped f xs k x h = slice_get-map f xs k ∙ ap (option_map f) h

pub unmapped : {X Y : Type 0} (f : X → Y) (o : Option X) (y : Y) → option_map f o ≡ Some y → (x : X) × (o ≡ Some x) × (f x ≡ y)
unmapped f None y h = cc
unmapped f (Some x) y h = (x, refl, cc)

pub nth_unmapped : {X Y : Type 0} (f : X → Y) (xs : List X) (k : ℕ) (y : Y) → slice_get (map f xs) k ≡ Some y → (x : X) × (slice_get xs k ≡ Some x) × (f x ≡ y)
nth_unmapped f xs k y h = unmapped f (slice_get xs k) y (sym (slice_get-map f xs k) ∙ h)

module _ {X Y : Type 0} (f : X → Y) (P : Y → Type 0) where
  pub each_at : (xs : List X) → All (λ x. P (f x)) xs → (k : ℕ) → IfSome (slice_get (map f xs) k) P
  each_at [] all k = tt
  each_at (x ∷ xs) all zero = all 0 x (omega arith)
  each_at (x ∷ xs) all (suc k) = each_at xs (λ i d lt. all (suc i) d (omega arith)) k

  pub all_from_each : (xs : List X) → ((k : ℕ) → IfSome (slice_get (map f xs) k) P) → All (λ x. P (f x)) xs
  all_from_each [] each k d lt = absurd (omega arith)
  all_from_each (x ∷ xs) each zero d lt = each 0
  all_from_each (x ∷ xs) each (suc k) d lt = all_from_each xs (λ i. each (suc i)) k d (omega arith)
