-- Which bundles fit a controller, which needs are own, and what is offered for a need.
use Rattle.std.specs.Prelude.{ℕ, Bool, false, cond, not, ◌&&◌, List, [], ◌∷◌, is_some, Some, None, Option, ◌==◌}
use Rattle.std.specs.Str.{bytes_eq}
use Rattle.kinds.specs.Controller.{before}
use Rattle.kinds.specs.Range.{holding}
use Rattle.kinds.specs.Version.{lower}
use Rattle.kinds.specs.declared.controller.ControllerNumber.{ControllerNumber}
use Rattle.kinds.specs.declared.range.Range.{Range}
use Rattle.kinds.specs.declared.version.Version.{Version}
use Rattle.shelf.specs.Meaning.{Name, Export, Need, Meaning, bound, bundle_at, controllers_at, need_at, is_import}
use Rattle.shelf.specs.declared.need.NeedKind.{NeedKind}
use Rattle.shelf.specs.declared.need.NeedKind.TheVariants.{Import, Require}

-- whether a range is there and holds the controller's number
abbrev pub range_holds : Option (Range ControllerNumber) → ControllerNumber → Bool
range_holds None controller = false
range_holds (Some range) controller = holding before range controller

-- a bundle fits if it is present and its controller range holds the number
abbrev pub fits : Meaning → ControllerNumber → ℕ → Bool
fits m controller b = range_holds (controllers_at m b) controller

-- the version at which a list of exports has a package
abbrev pub version_in : Name → List Export → Option Version
version_in name [] = None
version_in name (e ∷ es) = cond (bytes_eq e.name name) (Some e.version) (version_in name es)

-- the version of the package that a bundle exports under that name
abbrev pub exported : Meaning → ℕ → Name → Option Version
exported m c name = bound (bundle_at m c) (λ x. version_in name x.exports)

-- the version of a bundle, if it has that name
abbrev pub named : Meaning → ℕ → Name → Option Version
named m c name = bound (bundle_at m c) (λ x. cond (bytes_eq x.name name) (Some x.version) None)

-- an import of a package that the same bundle exports is own, and takes no choice
abbrev pub own : Meaning → ℕ → Need → Bool
own m b n = is_import n.kind && is_some (exported m b n.name)

-- what c has under a need's name: for an import an export of that package, for a require the bundle itself
abbrev pub version_for : NeedKind → Meaning → ℕ → Name → Option Version
version_for Import m c name = exported m c name
version_for (Require visibility) m c name = named m c name

abbrev pub in_range : Range Version → Option Version → Option Version
in_range range None = None
in_range range (Some v) = cond (holding lower range v) (Some v) None

-- the version that c offers for the need n of b: c is another fitting bundle, and that version is in the need's range
abbrev pub offered : Meaning → ControllerNumber → ℕ → Need → ℕ → Option Version
offered m controller b n c = cond (not (c == b) && fits m controller c) (in_range n.range (version_for n.kind m c n.name)) None

-- a candidate is what offers a version
abbrev pub candidate : Meaning → ControllerNumber → ℕ → Need → ℕ → Bool
candidate m controller b n c = is_some (offered m controller b n c)

-- The same by the position of the need; a need that is not there is not own and has no candidate.
abbrev pub need_own : Meaning → ℕ → Option Need → Bool
need_own m b None = false
need_own m b (Some n) = own m b n

abbrev pub own_at : Meaning → ℕ → ℕ → Bool
own_at m b k = need_own m b (need_at m b k)

abbrev pub offered_at : Meaning → ControllerNumber → ℕ → ℕ → ℕ → Option Version
offered_at m controller b k c = bound (need_at m b k) (λ n. offered m controller b n c)

abbrev pub candidate_at : Meaning → ControllerNumber → ℕ → ℕ → ℕ → Bool
candidate_at m controller b k c = is_some (offered_at m controller b k c)
