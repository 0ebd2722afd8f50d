-- Clauses as they are written: with their parameters in some order.
use Rattle.std.specs.Prelude.{◌≡◌, ℕ, true, List, [], ◌∷◌, ◌++◌, map, Some, codes, Option, ◌≢◌}
use Rattle.std.specs.List.{AllByRecursion}
use Rattle.text.specs.Bytes.{lacks}
use Rattle.text.specs.Splitting.{rejoined}
use Rattle.shelf.specs.Meaning.{Name}
use Rattle.shelf.specs.declared.need.Resolution.{Resolution}
use Rattle.shelf.specs.declared.need.Resolution.TheVariants.{Mandatory, Optional}
use Rattle.shelf.specs.declared.need.Visibility.{Visibility}
use Rattle.shelf.specs.declared.need.Visibility.TheVariants.{Private, Reexport}
use Rattle.manifest.specs.declared.header.Grammar.{Grammar}
use Rattle.manifest.specs.Names.{is_name}
use Rattle.manifest.specs.Parameters.{version_key, has_uses, has_resolution, has_visibility, Parameter, version, uses, resolution, visibility}
use Rattle.manifest.specs.Clauses.{RawClause, bare, with_parameters}

pub record Clause : Type 0 where
  pub name : Name
  pub parameters : List Parameter

-- The text.
abbrev pub quoted : List ℕ → List ℕ
quoted text = 34 ∷ (text ++ (34 ∷ []))

abbrev pub resolution_text : Resolution → List ℕ
resolution_text Mandatory = codes "mandatory"
resolution_text Optional = codes "optional"

abbrev pub visibility_text : Visibility → List ℕ
visibility_text Private = codes "private"
visibility_text Reexport = codes "reexport"

abbrev pub parameter_text : Grammar → Parameter → List ℕ
parameter_text g (version text) = version_key g ++ quoted text
parameter_text g (uses names) = codes "uses:=" ++ quoted (rejoined 44 names)
parameter_text g (resolution r) = codes "resolution:=" ++ resolution_text r
parameter_text g (visibility v) = codes "visibility:=" ++ visibility_text v

abbrev pub clause_text : Grammar → Clause → List ℕ
clause_text g c = rejoined 59 (c.name ∷ map (parameter_text g) c.parameters)

abbrev pub clauses_text : Grammar → List Clause → List ℕ
clauses_text g cs = rejoined 44 (map (clause_text g) cs)

-- What it says: nothing where a parameter comes twice.
abbrev pub says : Clause → Option RawClause
says c = with_parameters (Some (bare c.name)) (map Some c.parameters)

-- What may be written: the header's own parameters, names, and texts without a double quote.
abbrev pub LawfulParameter : Grammar → Parameter → Type 0
LawfulParameter g (version text) = lacks 34 text ≡ true
LawfulParameter g (uses names) = (has_uses g ≡ true) × (names ≢ []) × AllByRecursion (λ n. is_name n ≡ true) names
LawfulParameter g (resolution r) = has_resolution g ≡ true
LawfulParameter g (visibility v) = has_visibility g ≡ true

abbrev pub LawfulClause : Grammar → Clause → Type 0
LawfulClause g c = (is_name c.name ≡ true) × AllByRecursion (LawfulParameter g) c.parameters
