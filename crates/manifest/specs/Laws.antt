-- What holds of reading and writing, as statements.
use Rattle.std.specs.Prelude.{◌≡◌, ℕ, suc, ◌<◌, ◌≤◌, true, ◌⊎◌, List, [], map, length, Some, Ok, Err}
use Rattle.std.specs.List.{AllByRecursion, slice_get}
use Rattle.kinds.specs.declared.controller.ControllerNumber.{ControllerNumber}
use Rattle.kinds.specs.declared.range.Range.{Range}
use Rattle.kinds.specs.declared.range.Range.TheVariants.{AtLeast, Between}
use Rattle.kinds.specs.declared.version.Version.{Version}
use Rattle.kinds.specs.Range.{value_of}
use Rattle.shelf.specs.Meaning.{Name, Export, Need, Bundle, FewItems, WellFormed}
use Rattle.manifest.specs.declared.header.Grammar.{Grammar}
use Rattle.manifest.specs.Questions.{FirstNo}
use Rattle.manifest.specs.Names.{is_name}
use Rattle.manifest.specs.Clauses.{RawClause, each, form}
use Rattle.manifest.specs.ClauseText.{Clause, clauses_text, says, LawfulClause}
use Rattle.manifest.specs.Reading.{reading}
use Rattle.manifest.specs.Written.{written}

-- What can be written.
abbrev pub WritableName : Name → Type 0
WritableName n = (is_name n ≡ true) × (length n ≤ 48)

abbrev pub WritableVersion : Version → Type 0
WritableVersion v = (v.major < 65536) × (v.minor < 65536) × (v.micro < 65536)

abbrev pub WritableController : ControllerNumber → Type 0
WritableController c = c.0 < 65536

abbrev pub WritableRange : {K : Type 0} → (K → Type 0) → Range K → Type 0
WritableRange P (AtLeast floor) = P floor
WritableRange P (Between floor ceiling) = P (value_of floor) × P (value_of ceiling)

abbrev pub WritableExport : Export → Type 0
WritableExport e = WritableName e.name × WritableVersion e.version × AllByRecursion WritableName e.uses

abbrev pub WritableNeed : Need → Type 0
WritableNeed n = WritableName n.name × WritableRange WritableVersion n.range

-- a bundle that keeps the limits, with names as manifests allow them and numbers of 16 bits
pub record Writable (b : Bundle) : Type 0 where
  pub few : FewItems b
  pub name : WritableName b.name
  pub version : WritableVersion b.version
  pub controllers : WritableRange WritableController b.controllers
  pub exports : AllByRecursion WritableExport b.exports
  pub needs : AllByRecursion WritableNeed b.needs

-- no two bundles have the same name and version
abbrev pub Distinct : List Bundle → Type 0
Distinct bs = (i j : ℕ) (a b : Bundle) → slice_get bs i ≡ Some a → slice_get bs j ≡ Some b → a.name ≡ b.name → a.version ≡ b.version → i ≡ j

-- what a directory can say
pub record Lawful (bs : List Bundle) : Type 0 where
  pub most : length bs ≤ 64
  pub each : AllByRecursion Writable bs
  pub distinct : Distinct bs

-- whatever is lawful, where its text is short enough, is read from that text
abbrev pub ReadsBack : Type 0
ReadsBack = (bs : List Bundle) → Lawful bs → length (written bs) ≤ 65536 → reading (written bs) ≡ Ok bs

-- and whatever is read is lawful
abbrev pub ReadsLawful : Type 0
ReadsLawful = (text : List ℕ) (bs : List Bundle) → reading text ≡ Ok bs → Lawful bs

-- and so it keeps the limits of a shelf
abbrev pub LawfulFormed : Type 0
LawfulFormed = (bs : List Bundle) → Lawful bs → WellFormed (map Some bs)

-- the value is the text of lawful clauses, with their parameters in some order, which say cs
pub record WrittenAs (g : Grammar) (value : List ℕ) (cs : List RawClause) : Type 0 where
  pub clauses : List Clause
  pub some : clauses ≡ [] → ⊥
  pub lawful : AllByRecursion (LawfulClause g) clauses
  pub text : value ≡ clauses_text g clauses
  pub meaning : each says clauses ≡ Some cs

-- a value follows the form only so
abbrev pub OnlyWritten : Type 0
OnlyWritten = (g : Grammar) (value : List ℕ) (cs : List RawClause) → form g value ≡ Some cs → WrittenAs g value cs

-- and whatever is so written, in whatever order of parameters, is read
abbrev pub EveryOrder : Type 0
EveryOrder = (g : Grammar) (value : List ℕ) (cs : List RawClause) → WrittenAs g value cs → form g value ≡ Some cs

-- a line of the text starts at that offset
abbrev pub LineStart : List ℕ → ℕ → Type 0
LineStart text at = (at ≡ 0) ⊎ ((before : ℕ) × (at ≡ suc before) × (slice_get text before ≡ Some 10))

-- a refusal points at the start of a line, or at the text's end
abbrev pub PointsAtLines : Type 0
PointsAtLines = (text : List ℕ) (r : FirstNo) → reading text ≡ Err r → LineStart text r.offset ⊎ (r.offset ≡ length text)
