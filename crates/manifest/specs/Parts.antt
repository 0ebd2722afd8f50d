-- What the clauses and parameters that the code holds say.
use Rattle.std.specs.Prelude.{ℕ, List}
use Rattle.std.specs.Borrow.{Bor}
use Rattle.std.specs.Option.{option_map}
use Rattle.text.specs.Splitting.{parts}
use Rattle.manifest.specs.declared.clause.Part.{Part}
use Rattle.manifest.specs.declared.clause.Part.TheVariants.{Version, Uses, Resolution, Visibility}
use Rattle.manifest.specs.declared.clause.RawEntry.{RawEntry}
use Rattle.manifest.specs.Clauses.{RawClause}
use Rattle.manifest.specs.Parameters.{Parameter, version, uses, resolution, visibility}

-- the names between the commas
abbrev pub names_in : Bor (List ℕ) → List (List ℕ)
names_in text = parts 44 text.now

abbrev pub part_in : Part → Parameter
part_in (Version text) = version text.now
part_in (Uses names) = uses (names_in names)
part_in (Resolution r) = resolution r
part_in (Visibility v) = visibility v

abbrev pub raw_in : RawEntry → RawClause
raw_in c =
    record {
      name = c.name.now;
      version = option_map (λ text. text.now) c.version;
      uses = option_map names_in c.uses;
      resolution = c.resolution;
      visibility = c.visibility;
    }
