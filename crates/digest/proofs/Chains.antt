-- Following a bucket from its newest number to its oldest.
use Rattle.std.proofs.Common.{◌≡◌, ℕ, ◌+◌, ◌/◌, ◌%◌, ◌<◌, List, get_or, refl, inl, inr, Some, None, Option, MatchOption, arith}
use Rattle.std.specs.Option.{IsSomeAnd}
use Rattle.std.proofs.lemmas.Bool.{cases_order}
use Rattle.shelf.specs.Meaning.{Name, Meaning}
use Rattle.digest.specs.Index.{bucket_of, InBucket, Last, Indexed}
use Rattle.digest.specs.Packages.{ExportOf, NumberOf, package_at}
use Rattle.digest.proofs.Numbers.{same_package}

some_and : {X : Type 0} (P : X → Type 0) (o : Option X) → IsSomeAnd o P → (x : X) × (o ≡ Some x) × P x
some_and P None h = absurd h
some_and P (Some x) h = (x, refl, h)

-- how far down the numbers a link leads at most
abbrev pub height : Option ℕ → ℕ
height None = 0
height (Some n) = n + 1

module _ (m : Meaning) (bound : ℕ) (q : Name) where
  -- the numbers of the bucket from `at` on are not of q
  abbrev pub Seeking : Option ℕ → Type 0
  Seeking at =
      MatchOption at ((i : ℕ) → i < bound → NumberOf m q i → ⊥)
      (λ n. (n < bound) × IsSomeAnd (package_at m (n / 16) (n % 16)) (InBucket m (bucket_of q) n) × ((i : ℕ) → n < i → i < bound → NumberOf m q i → ⊥))

  pub seek_first : (r : Option ℕ) → Last m (bucket_of q) bound r → Seeking r
  seek_first None l = λ i h f. l i q h (f, refl)
  seek_first (Some n) (lt, there, none) = (lt, there, λ i a h f. none i q a h (f, refl))

  module _ (newest older : List (Option ℕ)) (x : Indexed m bound newest older) (n : ℕ) (s : Seeking (Some n)) (z : Option ℕ) where
    before : Last m (bucket_of q) n (get_or older n z)
    before =
        let (p, at, (f, e)) = some_and (InBucket m (bucket_of q) n) (package_at m (n / 16) (n % 16)) s.1 in
        rw e at (x.links n p z s.0 f)

    pub seek_less : height (get_or older n z) < height (Some n)
    seek_less = go (get_or older n z) before
      where
        go : (r : Option ℕ) → Last m (bucket_of q) n r → height r < n + 1
        go None l = omega arith
        go (Some k) l = omega (arith, l.0)

    pub seek_more : (ExportOf m n q → ⊥) → Seeking (get_or older n z)
    seek_more not = go (get_or older n z) before
      where
        past : (i : ℕ) → (i < n → NumberOf m q i → ⊥) → i < bound → NumberOf m q i → ⊥
        past i low h f = elim (cases_order i n) [
          | inl e ↦ not (rw e at f.named)
          | inr (inl b) ↦ low b f
          | inr (inr a) ↦ s.2 i a h f
        ]

        go : (r : Option ℕ) → Last m (bucket_of q) n r → Seeking r
        go None l = λ i h f. past i (λ b g. l i q b (g, refl)) h f
        go (Some k) (lt, there, none) = (let b = s.0 in omega arith, there, λ i a h f. past i (λ b g. none i q a b (g, refl)) h f)

    pub seek_found : ExportOf m n q → NumberOf m q n
    seek_found e =
        let (p, at, (f, same)) = some_and (InBucket m (bucket_of q) n) (package_at m (n / 16) (n % 16)) s.1 in
        let is = same_package m n p q f.named e in
        rw is at f
