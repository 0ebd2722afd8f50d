-- What versions, controller numbers and ranges print.
use Rattle.std.specs.Prelude.{ℕ, cond, List, [], ◌∷◌, ◌++◌, Some, Option, decimal}
use Rattle.std.specs.Fmt.{◌++?◌}
use Rattle.kinds.specs.declared.controller.ControllerNumber.{ControllerNumber}
use Rattle.kinds.specs.declared.range.End.{End}
use Rattle.kinds.specs.declared.range.Range.{Range}
use Rattle.kinds.specs.declared.range.Range.TheVariants.{AtLeast, Between}
use Rattle.kinds.specs.declared.version.Version.{Version}
use Rattle.kinds.specs.Range.{is_included, value_of}

-- all three numbers, with dots
abbrev pub version_text : Version → List ℕ
version_text v = decimal v.major ++ (46 ∷ (decimal v.minor ++ (46 ∷ decimal v.micro)))

abbrev pub controller_text : ControllerNumber → List ℕ
controller_text c = decimal c.0

-- the square or the round one of a side's brackets
abbrev pub bracket : ℕ → ℕ → {K : Type 0} → End K → ℕ
bracket square round end = cond (is_included end) square round

-- a floor alone, or both ends in brackets, over what a value of the kind prints
abbrev pub range_output : {K : Type 0} → (K → Option (List ℕ)) → Range K → Option (List ℕ)
range_output output (AtLeast floor) = output floor
range_output output (Between floor ceiling) =
    Some (bracket 91 40 floor ∷ [])
    ++? output (value_of floor)
    ++? Some (44 ∷ [])
    ++? output (value_of ceiling)
    ++? Some (bracket 93 41 ceiling ∷ [])
