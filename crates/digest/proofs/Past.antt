-- What the limits say: nothing stands past the last place, export, use and need.
use Rattle.std.proofs.Common.{◌≡◌, ℕ, ◌+◌, ◌*◌, ◌/◌, ◌%◌, ◌<◌, ◌≤◌, ◌⊎◌, length, IfSome, Some, None, Option, refl, ap, inl, inr, arith}
use Rattle.std.specs.Option.{option_flatten, option_map}
use Rattle.std.specs.List.{slice_get}
use Rattle.std.proofs.lemmas.Option.{slice_get_past}
use Rattle.std.proofs.lemmas.Bool.{cases_lt}
use Rattle.shelf.specs.Meaning.{Name, Export, Bundle, Meaning, FewItems, WellFormed, bound, bundle_at, export_at, need_at, used_at}
use Rattle.digest.specs.Packages.{package_at, ExportOf}

pub bundle_past : (m : Meaning) → WellFormed m → (b : ℕ) → 64 ≤ b → bundle_at m b ≡ None
bundle_past m w b le = ap option_flatten (slice_get_past m b (omega (arith, w.places)))

export-in : (o : Option Bundle) (j : ℕ) → IfSome o FewItems → 16 ≤ j → bound o (λ x. slice_get x.exports j) ≡ None
export-in None j h le = refl
export-in (Some x) j h le = slice_get_past x.exports j (omega (arith, h.exports.most))

need-in : (o : Option Bundle) (k : ℕ) → IfSome o FewItems → 16 ≤ k → bound o (λ x. slice_get x.needs k) ≡ None
need-in None k h le = refl
need-in (Some x) k h le = slice_get_past x.needs k (omega (arith, h.needs.most))

module _ (m : Meaning) (w : WellFormed m) where
  -- a place or an export that is past the last
  pub export_past : (b j : ℕ) → (64 ≤ b) ⊎ (16 ≤ j) → export_at m b j ≡ None
  export_past b j (inl le) = ap (λ o. bound o (λ x. slice_get x.exports j)) (bundle_past m w b le)
  export_past b j (inr le) = export-in (bundle_at m b) j (w.each b) le

  pub need_past : (b k : ℕ) → (64 ≤ b) ⊎ (16 ≤ k) → need_at m b k ≡ None
  need_past b k (inl le) = ap (λ o. bound o (λ x. slice_get x.needs k)) (bundle_past m w b le)
  need_past b k (inr le) = need-in (bundle_at m b) k (w.each b) le

  pub package_past : (b j : ℕ) → (64 ≤ b) ⊎ (16 ≤ j) → package_at m b j ≡ None
  package_past b j out = ap (option_map (λ e. e.name)) (export_past b j out)

  use_past : (b j k : ℕ) → 8 ≤ k → used_at m b j k ≡ None
  use_past b j k le = in_bundle (bundle_at m b) (w.each b)
    where
      in_export : (o : Option Export) → IfSome o (λ e. length e.uses ≤ 8) → bound o (λ e. slice_get e.uses k) ≡ None
      in_export None h = refl
      in_export (Some e) h = slice_get_past e.uses k (omega arith)

      in_bundle : (o : Option Bundle) → IfSome o FewItems → bound (bound o (λ x. slice_get x.exports j)) (λ e. slice_get e.uses k) ≡ None
      in_bundle None h = refl
      in_bundle (Some x) h = in_export (slice_get x.exports j) (h.exports.uses j)

  pub use_out : (b j k : ℕ) → (64 ≤ b) ⊎ ((16 ≤ j) ⊎ (8 ≤ k)) → used_at m b j k ≡ None
  use_out b j k (inl le) = ap (λ o. bound o (λ e. slice_get e.uses k)) (export_past b j (inl le))
  use_out b j k (inr (inl le)) = ap (λ o. bound o (λ e. slice_get e.uses k)) (export_past b j (inr le))
  use_out b j k (inr (inr le)) = use_past b j k le

  pub place_small : (b j : ℕ) (q : Name) → package_at m b j ≡ Some q → b < 64
  place_small b j q e = go (cases_lt b 64)
    where
      go : (b < 64) ⊎ (64 ≤ b) → b < 64
      go (inl h) = h
      go (inr h) =
          let a = package_past b j (inl h) in
          let z : ◌≡◌ {A = ℕ} 0 1 = cc in absurd (omega arith)

  pub column_small : (b j : ℕ) (q : Name) → package_at m b j ≡ Some q → j < 16
  column_small b j q e = go (cases_lt j 16)
    where
      go : (j < 16) ⊎ (16 ≤ j) → j < 16
      go (inl h) = h
      go (inr h) =
          let a = package_past b j (inr h) in
          let z : ◌≡◌ {A = ℕ} 0 1 = cc in absurd (omega arith)

  -- an export by its place and column is one that is counted through
  pub counted : (b j : ℕ) (q : Name) → package_at m b j ≡ Some q → (b * 16 + j < 1024) × ExportOf m (b * 16 + j) q
  counted b j q e =
      let p = place_small b j q e in
      let c = column_small b j q e in
      let row : (b * 16 + j) / 16 ≡ b = omega arith in
      let column : (b * 16 + j) % 16 ≡ j = omega arith in
      (omega arith, rw (row, column) e)
