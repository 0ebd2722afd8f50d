-- What a digest says of bundles as providers.
use Rattle.std.specs.Prelude.{◌≡◌, ℕ, cond, ltb, List, Some, None, Option, MatchOption}
use Rattle.shelf.specs.Lent.{Offer, offer_at}
use Rattle.shelf.specs.Meaning.{Meaning, bundle_at, export_at, version_at, used_at}
use Rattle.digest.specs.Each.{Each}
use Rattle.digest.specs.Packages.{Numbering, package_at}
use Rattle.digest.specs.declared.number.Number.{Number}
use Rattle.digest.specs.declared.provider.ExportDigest.{ExportDigest}
use Rattle.digest.specs.declared.provider.ProviderDigest.{ProviderDigest}

-- the number that is kept, 1,024 where there is none
abbrev pub number_in : Number → Option ℕ
number_in n = cond (ltb n.0 1024) (Some n.0) None

-- export j of b is there, and d says what it is
pub record IsExport (m : Meaning) (b j : ℕ) (d : ExportDigest) : Type 0 where
  pub number : Numbering m (package_at m b j) (Some d.number)
  pub version : (x : Offer) → offer_at m b j ≡ Some x → d.version ≡ x.version
  pub used : Each 8 (λ k u. Numbering m (used_at m b j k) (number_in u)) d.used

-- nothing stands for an export that is not there
abbrev pub ExportAt : Meaning → ℕ → ℕ → Option ExportDigest → Type 0
ExportAt m b j r = MatchOption r (export_at m b j ≡ None) (IsExport m b j)

-- there is a bundle at b, and d says what it provides
pub record IsProvider (m : Meaning) (b : ℕ) (d : ProviderDigest) : Type 0 where
  pub version : version_at m b ≡ Some d.version
  pub exports : Each 16 (ExportAt m b) d.exports

-- nothing stands for a bundle that is not there
abbrev pub ProviderAt : Meaning → ℕ → Option ProviderDigest → Type 0
ProviderAt m b r = MatchOption r (bundle_at m b ≡ None) (IsProvider m b)

abbrev pub Providing : Meaning → List (Option ProviderDigest) → Type 0
Providing m ds = Each 64 (ProviderAt m) ds
