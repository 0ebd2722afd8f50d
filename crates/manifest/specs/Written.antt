-- The text of bundles, one manifest each.
use Rattle.std.specs.Prelude.{ℕ, Bool, false, cond, not, List, [], ◌∷◌, ◌++◌, map, codes, decimal, filter, ◌==◌}
use Rattle.kinds.specs.declared.controller.ControllerNumber.{ControllerNumber}
use Rattle.kinds.specs.declared.range.Range.TheVariants.{AtLeast, Between}
use Rattle.kinds.specs.declared.range.Range.{Range}
use Rattle.kinds.specs.declared.version.Version.{Version}
use Rattle.kinds.specs.Range.{is_included, value_of}
use Rattle.shelf.specs.Meaning.{Name, Export, Need, Bundle, is_import}
use Rattle.shelf.specs.declared.need.NeedKind.{NeedKind}
use Rattle.shelf.specs.declared.need.NeedKind.TheVariants.{Import, Require}
use Rattle.manifest.specs.declared.header.Grammar.{Grammar}
use Rattle.manifest.specs.declared.header.Grammar.TheVariants.{Exports, Imports, Requires}
use Rattle.manifest.specs.Parameters.{Parameter, version, uses, resolution, visibility}
use Rattle.manifest.specs.ClauseText.{Clause, clauses_text}
use Rattle.manifest.specs.Values.{no_version}
use Rattle.manifest.specs.Reading.{same_version}

-- Versions with all three numbers, ranges as a floor alone or in brackets.
abbrev pub version_text : Version → List ℕ
version_text v = decimal v.major ++ (46 ∷ (decimal v.minor ++ (46 ∷ decimal v.micro)))

abbrev pub controller_text : ControllerNumber → List ℕ
controller_text c = decimal c.0

abbrev pub range_text : {K : Type 0} → (K → List ℕ) → Range K → List ℕ
range_text text (AtLeast floor) = text floor
range_text text (Between floor ceiling) =
    cond (is_included floor) 91 40 ∷ (text (value_of floor) ++ (44 ∷ (text (value_of ceiling) ++ (cond (is_included ceiling) 93 41 ∷ []))))

-- Clauses, each with its parameters in one order.
abbrev pub uses_parameter : List Name → List Parameter
uses_parameter [] = []
uses_parameter (n ∷ ns) = uses (n ∷ ns) ∷ []

abbrev pub export_clause : Export → Clause
export_clause e = record { name = e.name; parameters = version (version_text e.version) ∷ uses_parameter e.uses }

abbrev pub visibility_parameter : NeedKind → List Parameter
visibility_parameter Import = []
visibility_parameter (Require v) = visibility v ∷ []

abbrev pub need_clause : Need → Clause
need_clause n =
    record { name = n.name; parameters = version (range_text version_text n.range) ∷ (resolution n.resolution ∷ visibility_parameter n.kind) }

-- Header lines; a header at its default is left out.
abbrev pub header_text : List ℕ → List ℕ → List ℕ
header_text name value = name ++ (58 ∷ (32 ∷ (value ++ (10 ∷ []))))

abbrev pub clauses_line : List ℕ → Grammar → List Clause → List ℕ
clauses_line name g [] = []
clauses_line name g (c ∷ cs) = header_text name (clauses_text g (c ∷ cs))

abbrev pub version_line : Version → List ℕ
version_line v = cond (same_version v no_version) [] (header_text (codes "Bundle-Version") (version_text v))

-- every controller number is in the range
abbrev pub takes_all : Range ControllerNumber → Bool
takes_all (AtLeast floor) = floor.0 == 0
takes_all (Between floor ceiling) = false

abbrev pub controllers_line : Range ControllerNumber → List ℕ
controllers_line r = cond (takes_all r) [] (header_text (codes "X-Controller") (range_text controller_text r))

abbrev pub manifest_text : Bundle → List ℕ
manifest_text b =
    header_text (codes "Bundle-SymbolicName") b.name
    ++ (version_line b.version
    ++ (controllers_line b.controllers
    ++ (clauses_line (codes "Export-Package") Exports (map export_clause b.exports)
    ++ (clauses_line (codes "Import-Package") Imports (map need_clause (filter (λ n. is_import n.kind) b.needs))
    ++ (clauses_line (codes "Require-Bundle") Requires (map need_clause (filter (λ n. not (is_import n.kind)) b.needs))
    ++ (10 ∷ []))))))

abbrev pub written : List Bundle → List ℕ
written [] = []
written (b ∷ bs) = manifest_text b ++ written bs
