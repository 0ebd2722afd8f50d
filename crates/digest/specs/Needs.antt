-- What a digest says of a need; one that is not there has no kind, imports nothing, and is neither optional nor own.
use Rattle.std.specs.Prelude.{◌≡◌, ℕ, Bool, true, false, List, Some, None, Option, MatchOption}
use Rattle.std.specs.Option.{option_map}
use Rattle.kinds.specs.declared.controller.ControllerNumber.{ControllerNumber}
use Rattle.places.specs.Sets.{has}
use Rattle.places.specs.declared.set.PlaceSet.{PlaceSet}
use Rattle.shelf.specs.Meaning.{Name, Need, Meaning, need_at}
use Rattle.shelf.specs.declared.need.NeedKind.{NeedKind}
use Rattle.shelf.specs.declared.need.NeedKind.TheVariants.{Import, Require}
use Rattle.shelf.specs.declared.need.Resolution.{Resolution}
use Rattle.shelf.specs.declared.need.Resolution.TheVariants.{Mandatory, Optional}
use Rattle.wiring.specs.Candidates.{fits, own, candidate}
use Rattle.digest.specs.Each.{Each}
use Rattle.digest.specs.Packages.{Numbering}
use Rattle.digest.specs.declared.need.NeedDigest.{NeedDigest}

abbrev pub role_in : Option Need → Option NeedKind
role_in o = option_map (λ n. n.kind) o

-- the package that a need imports
abbrev pub import_of : NeedKind → Name → Option Name
import_of Import name = Some name
import_of (Require visibility) name = None

abbrev pub import_in : Option Need → Option Name
import_in None = None
import_in (Some n) = import_of n.kind n.name

abbrev pub may_stay : Resolution → Bool
may_stay Mandatory = false
may_stay Optional = true

abbrev pub optional_in : Option Need → Bool
optional_in None = false
optional_in (Some n) = may_stay n.resolution

abbrev pub Fitting : Meaning → ControllerNumber → PlaceSet → Type 0
Fitting m controller set = (b : ℕ) → has set b ≡ fits m controller b

-- the places that export the package with that number, seen from any need that imports it
abbrev pub Importing : Meaning → Option ℕ → PlaceSet → Type 0
Importing m imports set = (n : Need) → Numbering m (import_of n.kind n.name) imports → (x : ℕ) → has set x ≡ own m x n

-- d says what the need n of b is
pub record IsNeed (m : Meaning) (controller : ControllerNumber) (b : ℕ) (n : Need) (d : NeedDigest) : Type 0 where
  pub kind : d.kind ≡ n.kind
  pub resolution : d.resolution ≡ n.resolution
  pub imports : Numbering m (import_of n.kind n.name) d.imports
  pub own : d.own ≡ own m b n
  pub candidates : (c : ℕ) → has d.candidates c ≡ candidate m controller b n c

-- nothing stands for a need that is not there
abbrev pub NeedAt : Meaning → ControllerNumber → ℕ → ℕ → Option NeedDigest → Type 0
NeedAt m controller b k r = MatchOption r (need_at m b k ≡ None) (λ d. (n : Need) × (need_at m b k ≡ Some n) × IsNeed m controller b n d)

abbrev pub Needing : Meaning → ControllerNumber → List (List (Option NeedDigest)) → Type 0
Needing m controller ds = Each 64 (λ b row. Each 16 (NeedAt m controller b) row) ds
