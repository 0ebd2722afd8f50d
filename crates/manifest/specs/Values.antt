-- The values of the known headers: the questions 7 to 10, each of the whole value before the next.
-- 7 the value follows the form; 8 every version, range and number in it reads; 9 the limits hold; 10 no name is twice.
use Rattle.std.specs.Prelude.{ℕ, ◌+◌, Bool, ◌&&◌, List, [], map, length, Some, None, Ok, Option, Result, nat_le}
use Rattle.std.specs.Option.{option_map, unwrap_or}
use Rattle.text.specs.Bytes.{lacks}
use Rattle.kinds.specs.declared.controller.ControllerNumber.{ControllerNumber}
use Rattle.kinds.specs.declared.range.Range.{Range}
use Rattle.kinds.specs.declared.version.Version.{Version}
use Rattle.kinds.specs.declared.range.Range.TheVariants.{AtLeast}
use Rattle.kinds.specs.Controller.{controller, numbered}
use Rattle.kinds.specs.RangeText.{range}
use Rattle.kinds.specs.Version.{version as read_version}
use Rattle.shelf.specs.Meaning.{Name, Export, Need}
use Rattle.shelf.specs.declared.need.NeedKind.{NeedKind}
use Rattle.shelf.specs.declared.need.NeedKind.TheVariants.{Import, Require}
use Rattle.shelf.specs.declared.need.Resolution.TheVariants.{Mandatory}
use Rattle.shelf.specs.declared.need.Visibility.TheVariants.{Private}
use Rattle.manifest.specs.declared.header.Grammar.{Grammar}
use Rattle.manifest.specs.declared.header.Grammar.TheVariants.{Exports, Imports, Requires}
use Rattle.manifest.specs.Names.{all, is_name, none_twice}
use Rattle.manifest.specs.Clauses.{RawClause, each, form}
use Rattle.manifest.specs.Questions.{asks, gets}

-- What a missing version, range of versions or range of controller numbers stands for.
abbrev pub no_version : Version
no_version = record { major = 0; minor = 0; micro = 0 }

abbrev pub all_versions : Range Version
all_versions = AtLeast no_version

abbrev pub all_controllers : Range ControllerNumber
all_controllers = AtLeast (numbered 0)

-- Question 8: what is given reads, or stands for its default where it is missing.
abbrev pub version_or : Option (List ℕ) → Option Version
version_or None = Some no_version
version_or (Some text) = read_version text

abbrev pub range_or : Option (List ℕ) → Option (Range Version)
range_or None = Some all_versions
range_or (Some text) = range read_version text

abbrev pub export_of : RawClause → Option Export
export_of c = option_map (λ v. record { name = c.name; version = v; uses = unwrap_or c.uses [] }) (version_or c.version)

abbrev pub need_of : NeedKind → RawClause → Option Need
need_of kind c = option_map (λ r. record { kind = kind; name = c.name; range = r; resolution = unwrap_or c.resolution Mandatory }) (range_or c.version)

abbrev pub import_of : RawClause → Option Need
import_of c = need_of Import c

abbrev pub require_of : RawClause → Option Need
require_of c = need_of (Require (unwrap_or c.visibility Private)) c

-- Question 9: the limits.
abbrev pub short_name : Name → Bool
short_name n = nat_le (length n) 48

abbrev pub small_export : Export → Bool
small_export e = short_name e.name && (nat_le (length e.uses) 8 && all short_name e.uses)

abbrev pub few_exports : List Export → Bool
few_exports es = nat_le (length es) 16 && all small_export es

-- beside as many needs as the bundle's other header has given so far
abbrev pub few_needs : ℕ → List Need → Bool
few_needs others ns = nat_le (others + length ns) 16 && all (λ n. short_name n.name) ns

-- The values.
abbrev pub symbolic_name_in : List ℕ → Result Name ℕ
symbolic_name_in value = asks 7 (is_name value) (asks 9 (short_name value) (Ok value))

-- as in a parameter, any bytes but a double quote follow the form of a version or a range
abbrev pub version_in : List ℕ → Result Version ℕ
version_in value = asks 7 (lacks 34 value) (gets 8 (read_version value) Ok)

abbrev pub controllers_in : List ℕ → Result (Range ControllerNumber) ℕ
controllers_in value = asks 7 (lacks 34 value) (gets 8 (range controller value) Ok)

-- clauses, each read by `reads`
abbrev pub clauses_in : {X : Type 0} → Grammar → (RawClause → Option X) → (List X → Bool) → (X → Name) → List ℕ → Result (List X) ℕ
clauses_in g reads few name value =
    gets 7 (form g value) (λ cs. gets 8 (each reads cs) (λ xs. asks 9 (few xs) (asks 10 (none_twice (map name xs)) (Ok xs))))

abbrev pub exports_in : List ℕ → Result (List Export) ℕ
exports_in value = clauses_in Exports export_of few_exports (λ e. e.name) value

abbrev pub imports_in : ℕ → List ℕ → Result (List Need) ℕ
imports_in others value = clauses_in Imports import_of (few_needs others) (λ n. n.name) value

abbrev pub requires_in : ℕ → List ℕ → Result (List Need) ℕ
requires_in others value = clauses_in Requires require_of (few_needs others) (λ n. n.name) value
