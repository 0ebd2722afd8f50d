-- The places of each number, one export after the other.
use Rattle.std.proofs.Common.{◌≡◌, ℕ, zero, suc, ◌+◌, ◌<◌, ◌++◌, [], ◌∷◌, Bor, map, true, false, ◌||◌, eqb, ltb, ◌⊎◌, List, length, get_or, set, replicate, Some, None, Option, Decides, sym, refl, ap, ◌∙◌, subst, inl, inr, arith, get_or-set_same, get_or-set_other}
use Rattle.std.specs.Option.{option_map}
use Rattle.std.proofs.lemmas.List.{get_or-replicate, get_or_default}
use Rattle.std.specs.List.{slice_get}
use Rattle.std.proofs.lemmas.Bool.{and_from, and_parts, both_ways, cases_eq, eq-eqb, eqb-true, lt-ltb, or_cases, or_left, or_right}
use Rattle.std.proofs.lemmas.Option.{same_Some, slice_get_within}
use Rattle.places.specs.Members.{only}
use Rattle.places.specs.Sets.{has}
use Rattle.places.specs.declared.set.PlaceSet.{PlaceSet}
use Rattle.shelf.specs.Meaning.{Name, Meaning, WellFormed, bound}
use Rattle.digest.specs.Exporters.{Added, Exporting, Gathered, Lists}
use Rattle.digest.specs.Packages.{NumberOf, ExportsNumber}
use Rattle.digest.specs.Providers.{ProviderAt, Providing}
use Rattle.digest.specs.declared.provider.ExportDigest.{ExportDigest}
use Rattle.digest.specs.declared.provider.ProviderDigest.{ProviderDigest}
use Rattle.digest.proofs.Flat.{present, got_present, present_got}
use Rattle.digest.proofs.Past.{place_small}
use Rattle.digest.proofs.Provided.{item_at, listed}

-- one of the exports that were gone through has the number n
abbrev pub Taken : ℕ → List (Bor ExportDigest) → Type 0
Taken n [] = ⊥
Taken n (y ∷ ys) = (y.now.number ≡ n) ⊎ Taken n ys

taken_more : (n : ℕ) (ys : List (Bor ExportDigest)) (y : Bor ExportDigest) → Taken n ys ⊎ (y.now.number ≡ n) → Taken n (ys ++ y ∷ [])
taken_more n [] y (inl t) = absurd t
taken_more n [] y (inr e) = inl e
taken_more n (x ∷ ys) y (inl (inl e)) = inl e
taken_more n (x ∷ ys) y (inl (inr t)) = inr (taken_more n ys y (inl t))
taken_more n (x ∷ ys) y (inr e) = inr (taken_more n ys y (inr e))

taken_was : (n : ℕ) (ys : List (Bor ExportDigest)) (y : Bor ExportDigest) → Taken n (ys ++ y ∷ []) → Taken n ys ⊎ (y.now.number ≡ n)
taken_was n [] y (inl e) = inr e
taken_was n [] y (inr t) = absurd t
taken_was n (x ∷ ys) y (inl e) = inl (inl e)
taken_was n (x ∷ ys) y (inr t) = elim (taken_was n ys y t) [
  | inl k ↦ inl (inr k)
  | inr e ↦ inr e
]

taken_at : (n : ℕ) (ys : List (Bor ExportDigest)) → Taken n ys → (k : ℕ) × (d : ExportDigest) × (slice_get (map (λ y. y.now) ys) k ≡ Some d) × (d.number ≡ n)
taken_at n [] t = absurd t
taken_at n (y ∷ ys) (inl e) = (0, y.now, refl, e)
taken_at n (y ∷ ys) (inr t) = let (k, d, at, e) = taken_at n ys t in (suc k, d, at, e)

at_taken : (n : ℕ) (ys : List (Bor ExportDigest)) (k : ℕ) (d : ExportDigest) → slice_get (map (λ y. y.now) ys) k ≡ Some d → d.number ≡ n → Taken n ys
at_taken n [] k d at e = absurd (cc)
at_taken n (y ∷ ys) zero d at e = inl (ap (λ v. v.number) (same_Some y.now d at) ∙ e)
at_taken n (y ∷ ys) (suc k) d at e = inr (at_taken n ys k d at e)

-- the place is added to the sets of the numbers of the exports that were gone through
abbrev pub AddedBy : List PlaceSet → ℕ → List (Bor ExportDigest) → List PlaceSet → Type 0
AddedBy old b ys new = (n x : ℕ) (z : PlaceSet) → n < 1024 → Decides (has (get_or new n z) x) ((has (get_or old n z) x ≡ true) ⊎ ((x ≡ b) × Taken n ys))

pub added_none : (old : List PlaceSet) (b : ℕ) → AddedBy old b [] old
added_none old b n x z h = (
  λ t. inl t,
  λ w. elim w [
    | inl t ↦ t
    | inr (e, t) ↦ absurd t
  ],
)

pub added_all : (old new : List PlaceSet) (b : ℕ) (exports : List (Option ExportDigest)) (ys : List (Bor ExportDigest)) → length exports ≡ 16 → map (λ y. y.now) ys ≡ present exports → AddedBy old b ys new → Added old b exports 16 new
added_all old new b exports ys long all added n x z h = (
  λ t. elim ((added n x z h).0 t) [
    | inl s ↦ inl s
    | inr (e, t) ↦ inr (e, (let (k, d, at, num) = taken_at n ys t in let (j, there) = present_got exports k d (rw all at at) in (j, d, (let b = slice_get_within exports j (Some d) there in omega arith), there, num)))
  ],
  λ w. (added n x z h).1 (elim w [
    | inl s ↦ inl s
    | inr (e, (j, d, lt, there, num)) ↦ inr (e, (let (k, at) = got_present exports j d there in at_taken n ys k d (ap (λ l. slice_get l k) all ∙ at) num))
  ]),
)

module _ (old new : List PlaceSet) (b : ℕ) (ys : List (Bor ExportDigest)) (y : Bor ExportDigest) (was : AddedBy old b ys new) (long : y.now.number < length new) (place : b < 64) (z₀ s : PlaceSet)
    (set_is : (x : ℕ) → has s x ≡ (only b x || has (get_or new y.now.number z₀) x)) where
  more : (n x : ℕ) (P : Type 0) → P ⊎ ((x ≡ b) × Taken n ys) → P ⊎ ((x ≡ b) × Taken n (ys ++ y ∷ []))
  more n x P (inl t) = inl t
  more n x P (inr (e, t)) = inr (e, taken_more n ys y (inl t))

  only_b : (x : ℕ) → x ≡ b → only b x ≡ true
  only_b x e = and_from (eqb x b) (ltb b 64) (eq-eqb x b e) (lt-ltb b 64 place)

  same_number : (x : ℕ) (z : PlaceSet) → y.now.number < 1024 → Decides (has (get_or (set new y.now.number s) y.now.number z) x) ((has (get_or old y.now.number z) x ≡ true) ⊎ ((x ≡ b) × Taken y.now.number (ys ++ y ∷ [])))
  same_number x z h = rw (get_or-set_same new y.now.number s z long) (
    λ e. elim (or_cases (only b x) (has (get_or new y.now.number z₀) x) (sym (set_is x) ∙ e)) [
      | inl w ↦ inr (eqb-true x b (and_parts (eqb x b) (ltb b 64) w).0, taken_more y.now.number ys y (inr refl))
      | inr w ↦ more y.now.number x _ ((was y.now.number x z h).0 (ap (λ t. has t x) (get_or_default new y.now.number z z₀ long) ∙ w))
    ],
    λ w. set_is x ∙ elim w [
      | inl t ↦ or_right (only b x) (has (get_or new y.now.number z₀) x) (ap (λ t. has t x) (get_or_default new y.now.number z₀ z long) ∙ (was y.now.number x z h).1 (inl t))
      | inr (e, l) ↦ or_left (only b x) (has (get_or new y.now.number z₀) x) (only_b x e)
    ],
  )

  other_number : (n x : ℕ) (z : PlaceSet) → n < 1024 → (n ≡ y.now.number → ⊥) → Decides (has (get_or (set new y.now.number s) n z) x) ((has (get_or old n z) x ≡ true) ⊎ ((x ≡ b) × Taken n (ys ++ y ∷ [])))
  other_number n x z h ne = rw (get_or-set_other new y.now.number n s z ne) (
    λ e. more n x _ ((was n x z h).0 e),
    λ w. elim w [
      | inl t ↦ (was n x z h).1 (inl t)
      | inr (e, l) ↦ elim (taken_was n ys y l) [
        | inl k ↦ (was n x z h).1 (inr (e, k))
        | inr num ↦ absurd (ne (sym num))
      ]
    ],
  )

  pub added_more : y.now.number < 1024 → AddedBy old b (ys ++ y ∷ []) (set new y.now.number s)
  added_more small n x z h = elim (cases_eq n y.now.number) [
    | inl e ↦ rw e (same_number x z small)
    | inr ne ↦ other_number n x z h ne
  ]

-- The places of each number, one place after the other.
abbrev Provides : List (Option ProviderDigest) → ℕ → ℕ → ℕ → Type 0
Provides providers bound n x = (p : ProviderDigest) × (x < bound) × (slice_get providers x ≡ Some (Some p)) × Lists p.exports 16 n

module _ (providers : List (Option ProviderDigest)) (i : ℕ) (o : Option ProviderDigest) (at : slice_get providers i ≡ Some o) (old : List PlaceSet) (was : Gathered providers i old) where
  provides_more : (n x : ℕ) → Provides providers i n x → Provides providers (i + 1) n x
  provides_more n x (p, l, e, k) = (p, omega arith, e, k)

  provides_was : (n x : ℕ) → Provides providers (i + 1) n x → Provides providers i n x ⊎ ((p : ProviderDigest) × (x ≡ i) × (o ≡ Some p) × Lists p.exports 16 n)
  provides_was n x (p, l, e, k) = elim (cases_eq x i) [
    | inl s ↦ inr (p, s, same_Some o (Some p) (sym at ∙ (rw s at e)), k)
    | inr s ↦ inl (p, omega arith, e, k)
  ]

  pub gathered_skip : o ≡ None → Gathered providers (i + 1) old
  gathered_skip none n x z h = (
    λ t. provides_more n x ((was n x z h).0 t),
    λ w. elim (provides_was n x w) [
      | inl k ↦ (was n x z h).1 k
      | inr (p, s, is, k) ↦ absurd (let clash : ◌≡◌ {A = Option ProviderDigest} None (Some p) = sym none ∙ is in cc)
    ],
  )

  pub gathered_add : (p : ProviderDigest) (new : List PlaceSet) → o ≡ Some p → Added old i p.exports 16 new → Gathered providers (i + 1) new
  gathered_add p new is added n x z h = (
    λ t. elim ((added n x z h).0 t) [
      | inl s ↦ provides_more n x ((was n x z h).0 s)
      | inr (e, l) ↦ (p, omega arith, rw e (at ∙ ap Some is), l)
    ],
    λ w. (added n x z h).1 (elim (provides_was n x w) [
      | inl k ↦ inl ((was n x z h).1 k)
      | inr (q, e, s, l) ↦ (let same : q ≡ p = same_Some q p (sym s ∙ is) in inr (e, rw same at l))
    ]),
  )

pub gathered_none : (providers : List (Option ProviderDigest)) (s : PlaceSet) → ((x : ℕ) → has s x ≡ false) → Gathered providers 0 (replicate 1024 s)
gathered_none providers s empty n x z h = (
  λ t. absurd (both_ways (has s x) (empty x) (ap (λ y. has y x) (sym (get_or-replicate {A = PlaceSet} 1024 n s z h)) ∙ t)),
  λ (p, l, e, k). absurd (omega arith),
)

-- what the sets of all places say
module _ (m : Meaning) (w : WellFormed m) (providers : List (Option ProviderDigest)) (told : Providing m providers) where
  to : (n x : ℕ) → Provides providers 64 n x → ExportsNumber m x n
  to n x (p, l, at, (j, d, k, e, num)) =
      let provider = told.at x (Some p) at in
      let (q, here, f) = (provider.exports.at j (Some d) e).number in
      (q, subst (λ (k : ℕ). NumberOf m q k) num f, (j, here))

  from : (n x : ℕ) → ExportsNumber m x n → Provides providers 64 n x
  from n x (q, f, (j, e)) =
      let b = place_small m w x j q e in
      let long = told.long in
      let (o, at) = item_at providers x (omega arith) in
      go o at (told.at x o at)
    where
      go : (o : Option ProviderDigest) → slice_get providers x ≡ Some o → ProviderAt m x o → Provides providers 64 n x
      go None at none = absurd (let clash : ◌≡◌ {A = Option Name} None (Some q) = sym (ap (λ b. option_map (λ e. e.name) (bound b (λ y. slice_get y.exports j))) none) ∙ e in cc)
      go (Some p) at provider = (let (d, l, here, num) = listed m w x p.exports provider.exports n j q f e in (p, place_small m w x j q e, at, (j, d, l, here, num)))

  pub exporting : (sets : List PlaceSet) → Gathered providers 64 sets → Exporting m sets
  exporting sets gathered n x z h = (λ e. to n x ((gathered n x z h).0 e), λ e. (gathered n x z h).1 (from n x e))
