-- What a line such as `version [1.0,2.0) 1.2.0` is answered.
use Rattle.std.specs.Prelude.{ℕ, ◌-◌, Bool, cond, List, [], ◌∷◌, length, take, Some, None, codes, Option, ◌==◌, slice_index}
use Rattle.text.specs.Bytes.{equal}
use Rattle.text.specs.Splitting.{parts}
use Rattle.kinds.specs.declared.range.Range.{Range}
use Rattle.kinds.specs.Controller.{before, controller}
use Rattle.kinds.specs.Range.{holding}
use Rattle.kinds.specs.RangeText.{range}
use Rattle.kinds.specs.Version.{lower, version}
use Rattle.query.specs.declared.answer.Part.{Part}
use Rattle.query.specs.declared.answer.Part.TheVariants as part

-- the range's text and the value's text, with what is the case; or the first part that cannot be read
pub data Said : Type 0 where
  holds : List ℕ → List ℕ → Said
  leaves_out : List ℕ → List ℕ → Said
  unread : Part → Said

-- the range is read before the value
abbrev pub judged : {K : Type 0} → (K → K → Bool) → List ℕ → List ℕ → Option (Range K) → Option K → Said
judged below r v None value = unread part.Range
judged below r v (Some read) None = unread part.Value
judged below r v (Some read) (Some value) = cond (holding below read value) (holds r v) (leaves_out r v)

abbrev pub judged_as : {K : Type 0} → (List ℕ → Option K) → (K → K → Bool) → List ℕ → List ℕ → Said
judged_as reads below r v = judged below r v (range reads r) (reads v)

-- the kind is read before the range
abbrev pub asked : List ℕ → List ℕ → List ℕ → Said
asked kind r v =
    cond (equal kind (codes "version")) (judged_as version lower r v)
    (cond (equal kind (codes "controller")) (judged_as controller before r v) (unread part.Kind))

-- three words, with one space between each two
abbrev pub worded : List (List ℕ) → Said
worded [] = unread part.Form
worded (kind ∷ []) = unread part.Form
worded (kind ∷ (r ∷ [])) = unread part.Form
worded (kind ∷ (r ∷ (v ∷ []))) = asked kind r v
worded (kind ∷ (r ∷ (v ∷ (more ∷ words)))) = unread part.Form

abbrev pub answer_to : List ℕ → Said
answer_to line = worded (parts 32 line)

-- a line without the line feed that ends it, if one does
abbrev pub unfed : List ℕ → List ℕ
unfed line = cond (slice_index line (length line - 1) == 10) (take (length line - 1) line) line

-- the answer as it is printed: subject, verb and object, one after the other
abbrev pub failure : Part → List ℕ
failure part.Form = codes "not a kind, a range and a value"
failure part.Kind = codes "the kind cannot be read"
failure part.Range = codes "the range cannot be read"
failure part.Value = codes "the value cannot be read"

abbrev pub subject : Said → List ℕ
subject (holds r v) = r
subject (leaves_out r v) = r
subject (unread p) = []

abbrev pub verb : Said → List ℕ
verb (holds r v) = codes " holds "
verb (leaves_out r v) = codes " leaves out "
verb (unread p) = failure p

abbrev pub object : Said → List ℕ
object (holds r v) = v
object (leaves_out r v) = v
object (unread p) = []
