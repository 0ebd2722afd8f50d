-- The version that a list of exports has for a package, by which of them is of that package.
use Rattle.std.proofs.Common.{◌≡◌, ℕ, zero, suc, Bool, true, false, cond, List, [], ◌∷◌, is_some, Some, None, Decides, Option, sym, refl, ap, ◌∙◌, arith}
use Rattle.std.specs.Option.{option_map}
use Rattle.std.specs.List.{slice_get}
use Rattle.std.specs.Str.{bytes_eq}
use Rattle.std.proofs.lemmas.Slice.Eq.{bytes_eq-Decides}
use Rattle.kinds.specs.declared.version.Version.{Version}
use Rattle.shelf.specs.Meaning.{Name, Export, Need, Bundle, Meaning, bound, bundle_at, version_at, need_at, is_import}
use Rattle.shelf.specs.Lent.{Offer, offer_in, offer_at}
use Rattle.shelf.specs.Looked.{Exports, Only, Named, Own}
use Rattle.wiring.specs.Candidates.{version_in, exported, named, need_own, own_at}

-- export j of the list is of that package
abbrev At : List Export → ℕ → Name → Type 0
At es j name = option_map (λ e. e.name) (slice_get es j) ≡ Some name

at_some : (es : List Export) (name : Name) (j : ℕ) → At es j name → is_some (version_in name es) ≡ true
at_some [] name j h = cc
at_some (e ∷ es) name zero h = grind (arith, bytes_eq-Decides e.name name)
at_some (e ∷ es) name (suc j) h = grind (arith, at_some es name j h)

some_at : (es : List Export) (name : Name) → is_some (version_in name es) ≡ true → (j : ℕ) × At es j name
some_at [] name h = absurd (cc)
some_at (e ∷ es) name h = pick (some_at es name) (bytes_eq e.name name) refl h
  where
    pick : (is_some (version_in name es) ≡ true → (j : ℕ) × At es j name) → (f : Bool) → bytes_eq e.name name ≡ f → is_some (cond f (Some e.version) (version_in name es)) ≡ true → (j : ℕ) × At (e ∷ es) j name
    pick rest true same h = (0, ap Some ((bytes_eq-Decides e.name name).0 same))
    pick rest false same h = let found = rest h in (suc found.0, found.1)

at-version : (es : List Export) (name : Name) (j : ℕ) (e : Export) → slice_get es j ≡ Some e → e.name ≡ name → ((i : ℕ) → At es i name → i ≡ j) → version_in name es ≡ Some e.version
at-version [] name j e at is only = cc
at-version (x ∷ xs) name zero e at is only = grind (arith, bytes_eq-Decides x.name name)
at-version (x ∷ xs) name (suc j) e at is only =
    let rest = at-version xs name j e at is (λ i h. omega (arith, only (suc i) h)) in
    let first = only 0 in
    grind (arith, bytes_eq-Decides x.name name)

-- The same of the bundle at a place.
by-bundle : (o : Option Bundle) (name : Name) →
    Decides (is_some (bound o (λ x. version_in name x.exports))) ((j : ℕ) × (option_map (λ e. e.name) (bound o (λ x. slice_get x.exports j)) ≡ Some name))
by-bundle None name = (λ h. absurd (cc), λ (j, h). cc)
by-bundle (Some x) name = (some_at x.exports name, λ (j, h). at_some x.exports name j h)

pub exports-decides : (m : Meaning) (c : ℕ) (name : Name) → Decides (is_some (exported m c name)) (Exports m c name)
exports-decides m c name = by-bundle (bundle_at m c) name

pub lacking-none : (m : Meaning) (c : ℕ) (name : Name) → (Exports m c name → ⊥) → None ≡ exported m c name
lacking-none m c name h = go (exported m c name) (exports-decides m c name)
  where
    go : (o : Option Version) → Decides (is_some o) (Exports m c name) → None ≡ o
    go None d = refl
    go (Some v) d = absurd (h (d.0 refl))

found_in : (o : Option Bundle) (name : Name) (j : ℕ) (x : Offer) → Some x ≡ option_map offer_in (bound o (λ y. slice_get y.exports j)) →
    option_map (λ e. e.name) (bound o (λ y. slice_get y.exports j)) ≡ Some name → ((i : ℕ) → option_map (λ e. e.name) (bound o (λ y. slice_get y.exports i)) ≡ Some name → i ≡ j) →
    Some x.version ≡ bound o (λ y. version_in name y.exports)
found_in None name j x h at only = cc
found_in (Some y) name j x h at only = go (slice_get y.exports j) refl h at
  where
    go : (p : Option Export) → slice_get y.exports j ≡ p → Some x ≡ option_map offer_in p → option_map (λ e. e.name) p ≡ Some name → Some x.version ≡ version_in name y.exports
    go None z h at = cc
    go (Some e) z h at =
        let offer : x ≡ offer_in e = cc in
        let is : e.name ≡ name = cc in
        ap (λ o. Some o.version) offer ∙ sym (at-version y.exports name j e z is only)

pub found_version : (m : Meaning) (c : ℕ) (name : Name) (j : ℕ) (x : Offer) → Only m c name j → Some x ≡ offer_at m c j → Some x.version ≡ exported m c name
found_version m c name j x only h = found_in (bundle_at m c) name j x h only.0 only.1

-- A bundle's version by its name.
pub named_version : (m : Meaning) (c : ℕ) (name : Name) → Named m c name → version_at m c ≡ named m c name
named_version m c name = go (bundle_at m c)
  where
    go : (o : Option Bundle) → option_map (λ x. x.name) o ≡ Some name → option_map (λ x. x.version) o ≡ bound o (λ x. cond (bytes_eq x.name name) (Some x.version) None)
    go None h = refl
    go (Some x) h = grind (arith, bytes_eq-Decides x.name name)

pub unnamed_none : (m : Meaning) (c : ℕ) (name : Name) → (Named m c name → ⊥) → None ≡ named m c name
unnamed_none m c name = go (bundle_at m c)
  where
    go : (o : Option Bundle) → (option_map (λ x. x.name) o ≡ Some name → ⊥) → None ≡ bound o (λ x. cond (bytes_eq x.name name) (Some x.version) None)
    go None h = refl
    go (Some x) h = grind (arith, bytes_eq-Decides x.name name)

-- Own needs, as a test.
pub own_decides : (m : Meaning) (b k : ℕ) → Decides (own_at m b k) (Own m b k)
own_decides m b k = go (need_at m b k)
  where
    go : (o : Option Need) → Decides (need_own m b o) ((n : Need) × (o ≡ Some n) × (is_import n.kind ≡ true) × Exports m b n.name)
    go None = (λ h. absurd (cc), λ (n, e, i, x). cc)
    go (Some n) = (
      λ h. (n, refl, grind arith, (exports-decides m b n.name).0 (grind arith)),
      λ (k, e, i, x). let same : n ≡ k = cc in grind (arith, exports-decides m b n.name),
    )
