-- Where candidates stand, and which version they offer.
use Rattle.std.proofs.Common.{◌≡◌, ℕ, ◌+◌, ◌*◌, ◌≤◌, Bool, true, false, cond, not, ◌&&◌, eqb, is_some, Some, None, Decides, Option, sym, refl, ap, ◌∙◌}
use Rattle.std.specs.Option.{option_map}
use Rattle.std.specs.Str.{bytes_eq}
use Rattle.std.proofs.lemmas.Bool.{and_from, and_parts, both_ways}
use Rattle.kinds.specs.Range.{holding}
use Rattle.kinds.specs.Version.{lower}
use Rattle.kinds.specs.declared.controller.ControllerNumber.{ControllerNumber}
use Rattle.kinds.specs.declared.range.Range.{Range}
use Rattle.kinds.specs.declared.version.Version.{Version}
use Rattle.shelf.specs.Looked.{Exports}
use Rattle.shelf.specs.Meaning.{Name, Need, Bundle, Meaning, WellFormed, bound, bundle_at, version_at, is_import}
use Rattle.shelf.specs.declared.need.NeedKind.{NeedKind}
use Rattle.shelf.specs.declared.need.NeedKind.TheVariants.{Import, Require}
use Rattle.shelf.specs.declared.need.Visibility.{Visibility}
use Rattle.wiring.specs.Candidates.{range_holds, fits, exported, named, own, version_for, in_range, offered, candidate}
use Rattle.wiring.proofs.Exported.{exports-decides}
use Rattle.digest.specs.Needs.{import_of}
use Rattle.digest.specs.Packages.{ExportsNumber, Numbering}
use Rattle.digest.proofs.Numbers.{same_package}
use Rattle.digest.proofs.Past.{bundle_past, counted}

pub fits_past : (m : Meaning) → WellFormed m → (controller : ControllerNumber) (c : ℕ) → 64 ≤ c → fits m controller c ≡ false
fits_past m w controller c le = ap (λ o. range_holds (option_map (λ x. x.controllers) o) controller) (bundle_past m w c le)

-- what passes is in the pool
pub pooled : (pool passes : Bool) → (passes ≡ true → pool ≡ true) → (pool && passes) ≡ passes
pooled true passes within = refl
pooled false true within = within refl
pooled false false within = refl

-- an empty pool has no candidate
pub none-among : (pool passes : ℕ → Bool) → ((p : ℕ) → passes p ≡ true → pool p ≡ true) → ((p : ℕ) → pool p ≡ false) → (p : ℕ) → pool p ≡ passes p
none-among pool passes within none p = go (passes p) refl
  where
    go : (t : Bool) → passes p ≡ t → pool p ≡ t
    go true e = within p e
    go false e = none p

-- what is offered is what is there
kept : (f : Bool) (range : Range Version) (o : Option Version) → is_some (cond f (in_range range o) None) ≡ true → (f ≡ true) × (is_some o ≡ true) × (cond f (in_range range o) None ≡ o)
kept false range o h = absurd (both_ways false refl h)
kept true range None h = absurd (both_ways false refl h)
kept true range (Some v) h = go (holding lower range v) h
  where
    go : (t : Bool) → is_some (cond t (Some v) None) ≡ true → (◌≡◌ {A = Bool} true true) × (◌≡◌ {A = Bool} true true) × (cond t (Some v) None ≡ Some v)
    go true h = (refl, refl, refl)
    go false h = absurd (both_ways false refl h)

named-version : (m : Meaning) (c : ℕ) (name : Name) → is_some (named m c name) ≡ true → named m c name ≡ version_at m c
named-version m c name = go (bundle_at m c)
  where
    pick : (f : Bool) (v : Version) → is_some (cond f (Some v) None) ≡ true → cond f (Some v) None ≡ Some v
    pick true v h = refl
    pick false v h = absurd (both_ways false refl h)

    go : (o : Option Bundle) → is_some (bound o (λ x. cond (bytes_eq x.name name) (Some x.version) None)) ≡ true → bound o (λ x. cond (bytes_eq x.name name) (Some x.version) None) ≡ option_map (λ x. x.version) o
    go None h = refl
    go (Some x) h = pick (bytes_eq x.name name) x.version h

module _ (m : Meaning) (controller : ControllerNumber) (b : ℕ) (n : Need) (c : ℕ) (serves : candidate m controller b n c ≡ true) where
  has : (fits m controller c ≡ true) × (is_some (version_for n.kind m c n.name) ≡ true) × (offered m controller b n c ≡ version_for n.kind m c n.name)
  has =
      let k = kept (not (eqb c b) && fits m controller c) n.range (version_for n.kind m c n.name) serves in
      ((and_parts (not (eqb c b)) (fits m controller c) k.0).1, k.1, k.2)

  pub served_fits : fits m controller c ≡ true
  served_fits = has.0

  pub served_own : n.kind ≡ Import → own m c n ≡ true
  served_own k = and_from (is_import n.kind) (is_some (exported m c n.name)) (ap is_import k) (ap (λ k. is_some (version_for k m c n.name)) (sym k) ∙ has.1)

  pub served_import : n.kind ≡ Import → offered m controller b n c ≡ exported m c n.name
  served_import k = has.2 ∙ ap (λ k. version_for k m c n.name) k

  pub served_require : (v : Visibility) → n.kind ≡ Require v → offered m controller b n c ≡ version_at m c
  served_require v k =
      let is : version_for n.kind m c n.name ≡ named m c n.name = ap (λ k. version_for k m c n.name) k in
      has.2 ∙ is ∙ named-version m c n.name (ap is_some (sym is) ∙ has.1)

-- Who exports what a need imports.
pub imported_name : (kind : NeedKind) (name q : Name) → import_of kind name ≡ Some q → (kind ≡ Import) × (name ≡ q)
imported_name Import name q e = (refl, cc)
imported_name (Require v) name q e = absurd (cc)

is_kind : (kind : NeedKind) → is_import kind ≡ true → kind ≡ Import
is_kind Import h = refl
is_kind (Require v) h = absurd (both_ways false refl h)

module _ (m : Meaning) (w : WellFormed m) (n : Need) (x : ℕ) where
  pub own_number : (k : ℕ) → Numbering m (import_of n.kind n.name) (Some k) → Decides (own m x n) (ExportsNumber m x k)
  own_number k (q, e, f) =
      let (kind, same) = imported_name n.kind n.name q e in (
        λ t. (q, f, (let there : Exports m x n.name = (exports-decides m x n.name).0 (and_parts (is_import n.kind) (is_some (exported m x n.name)) t).1 in rw same at there)),
        λ (p, g, there). let one : p ≡ n.name = same_package m k p q g.named f.named ∙ sym same in
            and_from (is_import n.kind) (is_some (exported m x n.name)) (ap is_import kind) ((exports-decides m x n.name).1 (rw one at there)),
      )

  pub own_none : Numbering m (import_of n.kind n.name) None → own m x n ≡ false
  own_none none = go (own m x n) (λ t. never (and_parts (is_import n.kind) (is_some (exported m x n.name)) t))
    where
      never : (is_import n.kind ≡ true) × (is_some (exported m x n.name) ≡ true) → ⊥
      never (i, s) =
          let (j, e) = (exports-decides m x n.name).0 s in
          none n.name (ap (λ k. import_of k n.name) (is_kind n.kind i)) (x * 16 + j) (counted m w x j n.name e).1

      go : (t : Bool) → (t ≡ true → ⊥) → t ≡ false
      go true h = absurd (h refl)
      go false h = refl
