-- What an export is, by what is read of it.
use Rattle.std.proofs.Common.{◌≡◌, ℕ, ◌<◌, List, length, Some, None, Option, MatchOption, Bor, refl, ap, sym, ◌∙◌, subst, inl, inr, arith}
use Rattle.std.specs.List.{AllWithin, HoldsAt, slice_get}
use Rattle.std.specs.Option.{option_map}
use Rattle.std.proofs.lemmas.Option.{get_or_from_slice_get, same_Some, slice_get-get_or, slice_get_cases, slice_get_within}
use Rattle.kinds.specs.declared.version.Version.{Version}
use Rattle.shelf.specs.Lent.{Offer, offer_in, offer_at}
use Rattle.shelf.specs.Meaning.{Name, Export, Meaning, WellFormed, bound, bundle_at, export_at}
use Rattle.shelf.proofs.Exported.{only_here}
use Rattle.wiring.specs.Candidates.{exported, version_in}
use Rattle.wiring.proofs.Exported.{found_version, lacking-none}
use Rattle.digest.specs.Each.{Each}
use Rattle.digest.specs.Packages.{NumberOf, package_at}
use Rattle.digest.specs.Providers.{ExportAt}
use Rattle.digest.specs.declared.provider.ExportDigest.{ExportDigest}
use Rattle.digest.proofs.Flat.{present, got_present, present_got}
use Rattle.digest.proofs.Numbers.{one_number, same_package}
use Rattle.digest.proofs.Past.{column_small}

pub offered_package : (m : Meaning) (b j : ℕ) (x : Offer) → Some x ≡ offer_at m b j → package_at m b j ≡ Some x.name
offered_package m b j x = go (export_at m b j)
  where
    go : (o : Option Export) → Some x ≡ option_map offer_in o → option_map (λ e. e.name) o ≡ Some x.name
    go None e = cc
    go (Some y) e = let same : x ≡ offer_in y = cc in ap (λ z. Some z.name) (sym same)

pub item_at : {X : Type 0} (xs : List X) (i : ℕ) → i < length xs → (x : X) × (slice_get xs i ≡ Some x)
item_at xs i lt = elim (slice_get_cases xs i).1 [
  | inl (x, l, e, g) ↦ (x, e)
  | inr (l, e) ↦ absurd (omega arith)
]

-- the export of a numbered package has that number
pub listed : (m : Meaning) → WellFormed m → (x : ℕ) (exports : List (Option ExportDigest)) → Each 16 (ExportAt m x) exports → (n j : ℕ) (q : Name) → NumberOf m q n → package_at m x j ≡ Some q →
    (d : ExportDigest) × (j < 16) × (slice_get exports j ≡ Some (Some d)) × (d.number ≡ n)
listed m w x exports told n j q f e =
    let lt = column_small m w x j q e in
    let long = told.long in
    let (o, here) = item_at exports j (omega arith) in
    go o here (told.at j o here)
  where
    go : (o : Option ExportDigest) → slice_get exports j ≡ Some o → ExportAt m x j o → (d : ExportDigest) × (j < 16) × (slice_get exports j ≡ Some (Some d)) × (d.number ≡ n)
    go None here none = absurd (let clash : ◌≡◌ {A = Option Name} None (Some q) = sym (ap (option_map (λ e. e.name)) none) ∙ e in cc)
    go (Some d) here export =
        let (r, named, g) = export.number in
        let same : r ≡ q = same_Some r q (sym named ∙ e) in
        (d, column_small m w x j q e, here, one_number m q d.number n (rw same at g) f)

the_offer : (o : Option Export) (q : Name) → option_map (λ e. e.name) o ≡ Some q → (x : Offer) × (option_map offer_in o ≡ Some x)
the_offer None q h = absurd (cc)
the_offer (Some e) q h = (offer_in e, refl)

-- the version of a package, by its number
module _ (m : Meaning) (w : WellFormed m) (c : ℕ) (exports : List (Option ExportDigest)) (told : Each 16 (ExportAt m c) exports) (n : ℕ) (q : Name) (f : NumberOf m q n) where
  pub version_found : (j : ℕ) (d : ExportDigest) → slice_get exports j ≡ Some (Some d) → d.number ≡ n → Some d.version ≡ exported m c q
  version_found j d at num =
      let export = told.at j (Some d) at in
      let (r, named, g) = export.number in
      let g' : NumberOf m r n = subst (λ (k : ℕ). NumberOf m r k) num g in
      let here : package_at m c j ≡ Some q = named ∙ ap Some (same_package m n r q g'.named f.named) in
      let (x, o) = the_offer (export_at m c j) q here in
      ap Some (export.version x o) ∙ found_version m c q j x (only_here m c j q w here) (sym o)

  pub version_lacking : ((j : ℕ) (d : ExportDigest) → slice_get exports j ≡ Some (Some d) → d.number ≡ n → ⊥) → None ≡ exported m c q
  version_lacking never = lacking-none m c q (λ (j, e). let (d, lt, at, num) = listed m w c exports told n j q f e in never j d at num)

-- the version of a package, by the first export that has its number
module _ (m : Meaning) (w : WellFormed m) (c : ℕ) (exports : List (Option ExportDigest)) (told : Each 16 (ExportAt m c) exports) (n : ℕ) (q : Name) (f : NumberOf m q n) where
  pub version_by : (r : Option (Bor ExportDigest)) (v : Option Version) →
      MatchOption r (AllWithin (λ d. d.number ≡ n → ⊥) (present exports) 0 (length (present exports)))
      (λ x. (x.now.number ≡ n) × (i : ℕ) × (i < length (present exports)) × HoldsAt (λ y. y ≡ x.now) (present exports) i × AllWithin (λ d. d.number ≡ n → ⊥) (present exports) 0 i) →
      MatchOption r (v ≡ None) (λ x. v ≡ Some x.now.version) → v ≡ exported m c q
  version_by None v others none =
      none ∙ version_lacking m w c exports told n q f
      (λ j d at num. let (k, here) = got_present exports j d at in
      others k d (omega arith) (slice_get_within (present exports) k d here) (ap (λ y. y.number) (get_or_from_slice_get (present exports) k d d here) ∙ num))
  version_by (Some x) v (num, i, lt, at, before) some =
      let (j, there) = present_got exports i x.now (slice_get-get_or (present exports) i x.now lt ∙ ap Some (at x.now)) in
      some ∙ version_found m w c exports told n q f j x.now there num

pub version_absent : (m : Meaning) (c : ℕ) (q : Name) → bundle_at m c ≡ None → None ≡ exported m c q
version_absent m c q none = sym (ap (λ o. bound o (λ x. version_in q x.exports)) none)
