-- What an answer claims.
use Rattle.std.specs.Prelude.{◌≡◌, ℕ, Bool, true, false, ◌⊎◌, List, ◌∷◌, ◌++◌, Some, codes, Option}
use Rattle.kinds.specs.declared.range.Range.{Range}
use Rattle.kinds.specs.Controller.{before, controller}
use Rattle.kinds.specs.Examples.{Answered}
use Rattle.kinds.specs.Range.{Holds}
use Rattle.kinds.specs.RangeText.{RangeText}
use Rattle.kinds.specs.Version.{lower, version}
use Rattle.query.specs.Answers.{Said, holds, leaves_out, unread, answer_to}

-- the two texts read as a range and as a value of the kind, and the range holds the value, or does not
pub record Told {K : Type 0} (reads : List ℕ → Option K) (below : K → K → Bool) (r v : List ℕ) (held : Bool) : Type 0 where
  pub range : Range K
  pub value : K
  pub range_reads : RangeText reads r range
  pub value_reads : reads v ≡ Some value
  pub answer : Answered held (Holds below range value)

-- the line asks about these two texts, of one of the two kinds
abbrev pub Claims : List ℕ → List ℕ → List ℕ → Bool → Type 0
Claims line r v held =
    ((line ≡ codes "version " ++ (r ++ (32 ∷ v))) × Told version lower r v held)
    ⊎ ((line ≡ codes "controller " ++ (r ++ (32 ∷ v))) × Told controller before r v held)

abbrev pub True : List ℕ → Said → Type 0
True line (holds r v) = Claims line r v true
True line (leaves_out r v) = Claims line r v false
True line (unread p) = Unit {0}

-- whatever a line is answered is true
abbrev pub Truthful : Type 0
Truthful = (line : List ℕ) → True line (answer_to line)
