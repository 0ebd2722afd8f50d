-- No two places of a list hold related things. Lemmas for the proofs: a reader need not believe them.
use Rattle.std.specs.Prelude.{◌≡◌, ℕ, zero, suc, true, false, not, ◌⊎◌, List, [], ◌∷◌, ◌++◌, map, Some, ◌≢◌, refl}
use Rattle.std.proofs.Common.{arith, inl, inr, sym, ap, subst, ◌∙◌}
use Rattle.std.specs.List.{slice_get}
use Rattle.std.proofs.lemmas.Bool.{and_parts, or_parts, not-true, both_ways}
use Rattle.text.specs.Bytes.{equal}
use Rattle.text.proofs.Equals.{equal-decides}
use Rattle.shelf.specs.Meaning.{Name}
use Rattle.manifest.specs.Names.{among, none_twice}
use Rattle.manifest.specs.Given.{never}

abbrev pub Once : {X : Type 0} → (X → X → Type 0) → List X → Type 0
Once {X} R xs = (i j : ℕ) (a b : X) → slice_get xs i ≡ Some a → slice_get xs j ≡ Some b → R a b → i ≡ j

-- nothing in the one list is related to anything in the other
abbrev pub Apart : {X : Type 0} → (X → X → Type 0) → List X → List X → Type 0
Apart {X} R xs ys = (i j : ℕ) (a b : X) → slice_get xs i ≡ Some a → slice_get ys j ≡ Some b → R a b → ⊥

nth-append : {X : Type 0} (xs ys : List X) (i : ℕ) (a : X) → slice_get (xs ++ ys) i ≡ Some a → (slice_get xs i ≡ Some a) ⊎ ((k : ℕ) × (slice_get ys k ≡ Some a))
nth-append [] ys i a h = inr (i, h)
nth-append (x ∷ xs) ys zero a h = inl h
nth-append (x ∷ xs) ys (suc i) a h = nth-append xs ys i a h

module _ {X : Type 0} (R : X → X → Type 0) where
  pub once_one : (x : X) → Once R (x ∷ [])
  once_one x zero zero a b p q r = refl
  once_one x zero (suc j) a b p q r = never b q
  once_one x (suc i) j a b p q r = never a p

  pub once_rest : (x : X) (xs : List X) → Once R (x ∷ xs) → Once R xs
  once_rest x xs f i j a b p q r = let z : suc i ≡ suc j = f (suc i) (suc j) a b p q r in omega arith

  module _ (flip : (a b : X) → R a b → R b a) where
    once-step : (x : X) (xs ys : List X) → Once R (x ∷ xs) → Apart R (x ∷ xs) ys → Once R (xs ++ ys) → Once R (x ∷ (xs ++ ys))
    once-step x xs ys f apart rest = go
      where
        first : (j : ℕ) (b : X) → slice_get (xs ++ ys) j ≡ Some b → R x b → ⊥
        first j b q r = by (nth-append xs ys j b q)
          where
            by : (slice_get xs j ≡ Some b) ⊎ ((k : ℕ) × (slice_get ys k ≡ Some b)) → ⊥
            by (inl e) = let z : zero ≡ suc j = f zero (suc j) x b refl e r in omega arith
            by (inr e) = apart zero e.0 x b refl e.1 r

        go : Once R (x ∷ (xs ++ ys))
        go zero zero a b p q r = refl
        go zero (suc j) a b p q r = let is : x ≡ a = cc in absurd (first j b q (subst (λ y. R y b) (sym is) r))
        go (suc i) zero a b p q r = let is : x ≡ b = cc in absurd (first i a p (subst (λ y. R y a) (sym is) (flip a b r)))
        go (suc i) (suc j) a b p q r = ap suc (rest i j a b p q r)

    pub once-append : (xs ys : List X) → Once R xs → Once R ys → Apart R xs ys → Once R (xs ++ ys)
    once-append [] ys f g apart = g
    once-append (x ∷ xs) ys f g apart =
        once-step x xs ys f apart (once-append xs ys (once_rest x xs f) g (λ i j a b p q r. apart (suc i) j a b p q r))

module _ {X : Type 0} (name : X → Name) where
  abbrev pub SameName : X → X → Type 0
  SameName a b = name a ≡ name b

  not-among : (n : Name) (xs : List X) → among n (map name xs) ≡ false → (j : ℕ) (b : X) → slice_get xs j ≡ Some b → n ≢ name b
  not-among n [] h j b q e = never b q
  not-among n (x ∷ xs) h zero b q e =
      let is : x ≡ b = cc in
      both_ways (equal n (name x)) (or_parts (equal n (name x)) (among n (map name xs)) h).0 ((equal-decides n (name x)).1 (e ∙ ap name (sym is)))
  not-among n (x ∷ xs) h (suc j) b q e = not-among n xs (or_parts (equal n (name x)) (among n (map name xs)) h).1 j b q e

  -- where no name stands twice, no two have the same
  pub once_named : (xs : List X) → none_twice (map name xs) ≡ true → Once SameName xs
  once_named [] h = λ i j a b p q r. never a p
  once_named (x ∷ xs) h = once-append SameName (λ a b r. sym r) (x ∷ []) xs (once_one SameName x) (once_named xs both.1) apart
    where
      both : (not (among (name x) (map name xs)) ≡ true) × (none_twice (map name xs) ≡ true)
      both = and_parts (not (among (name x) (map name xs))) (none_twice (map name xs)) h

      apart : Apart SameName (x ∷ []) xs
      apart zero j a b p q r = let is : x ≡ a = cc in not-among (name x) xs (not-true (among (name x) (map name xs)) both.0) j b q (ap name is ∙ r)
      apart (suc i) j a b p q r = never a p
