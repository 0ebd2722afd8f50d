-- What a shelf means: a list of places, each absent or a bundle.
use Rattle.std.specs.Prelude.{◌≡◌, ℕ, ◌<◌, ◌≤◌, Bool, true, false, List, length, IfSome, Some, None, Option}
use Rattle.std.specs.Option.{option_flatten, option_map}
use Rattle.std.specs.List.{slice_get}
use Rattle.kinds.specs.declared.controller.ControllerNumber.{ControllerNumber}
use Rattle.kinds.specs.declared.range.Range.{Range}
use Rattle.kinds.specs.declared.version.Version.{Version}
use Rattle.shelf.specs.declared.need.NeedKind.{NeedKind}
use Rattle.shelf.specs.declared.need.NeedKind.TheVariants.{Import, Require}
use Rattle.shelf.specs.declared.need.Resolution.{Resolution}

-- a name is any bytes, so that all that is shown of shelves is shown of more of them
abbrev pub Name : Type 0
Name = List ℕ

-- a package that a bundle offers, and the packages that show in it
pub record Export : Type 0 where
  pub name : Name
  pub version : Version
  pub uses : List Name

pub record Need : Type 0 where
  pub kind : NeedKind
  pub name : Name
  pub range : Range Version
  pub resolution : Resolution

pub record Bundle : Type 0 where
  pub name : Name
  pub version : Version
  pub controllers : Range ControllerNumber
  pub exports : List Export
  pub needs : List Need

abbrev pub Meaning : Type 0
Meaning = List (Option Bundle)

-- the bundle at a place: the one lookup that all else goes through; none where the place is absent or past the end
abbrev pub bundle_at : Meaning → ℕ → Option Bundle
bundle_at m place = option_flatten (slice_get m place)

abbrev pub bound : {A B : Type 0} → Option A → (A → Option B) → Option B
bound None f = None
bound (Some x) f = f x

-- The items of the bundle at a place.
abbrev pub name_at : Meaning → ℕ → Option Name
name_at m place = option_map (λ b. b.name) (bundle_at m place)

abbrev pub version_at : Meaning → ℕ → Option Version
version_at m place = option_map (λ b. b.version) (bundle_at m place)

abbrev pub controllers_at : Meaning → ℕ → Option (Range ControllerNumber)
controllers_at m place = option_map (λ b. b.controllers) (bundle_at m place)

abbrev pub export_at : Meaning → ℕ → ℕ → Option Export
export_at m place j = bound (bundle_at m place) (λ b. slice_get b.exports j)

abbrev pub used_at : Meaning → ℕ → ℕ → ℕ → Option Name
used_at m place j k = bound (export_at m place j) (λ e. slice_get e.uses k)

abbrev pub need_at : Meaning → ℕ → ℕ → Option Need
need_at m place k = bound (bundle_at m place) (λ b. slice_get b.needs k)

-- The limits.
abbrev pub is_import : NeedKind → Bool
is_import Import = true
is_import (Require visibility) = false

-- a bundle's exports: at most 16, each with at most 8 used names, and no package twice
pub record FewExports (exports : List Export) : Type 0 where
  pub most : length exports ≤ 16
  pub uses : (j : ℕ) → IfSome (slice_get exports j) (λ e. length e.uses ≤ 8)
  pub once : (i j : ℕ) (e f : Export) → slice_get exports i ≡ Some e → slice_get exports j ≡ Some f → e.name ≡ f.name → i ≡ j

-- a bundle's needs: at most 16, the imports before the requires, and no name twice among either
pub record FewNeeds (needs : List Need) : Type 0 where
  pub most : length needs ≤ 16
  pub order : (i j : ℕ) (a b : Need) → i < j → slice_get needs i ≡ Some a → slice_get needs j ≡ Some b → is_import b.kind ≡ true → is_import a.kind ≡ true
  pub once : (i j : ℕ) (a b : Need) → slice_get needs i ≡ Some a → slice_get needs j ≡ Some b → is_import a.kind ≡ is_import b.kind → a.name ≡ b.name → i ≡ j

pub record FewItems (b : Bundle) : Type 0 where
  pub exports : FewExports b.exports
  pub needs : FewNeeds b.needs

pub record WellFormed (m : Meaning) : Type 0 where
  pub places : length m ≤ 64
  pub each : (place : ℕ) → IfSome (bundle_at m place) FewItems
