-- Whatever a line is answered is true.
use Rattle.std.proofs.Common.{◌≡◌, ℕ, Bool, true, false, cond, List, [], ◌∷◌, ◌++◌, Some, None, codes, Option, sym, refl, ap, ◌∙◌, inl, inr}
use Rattle.std.proofs.lemmas.Bool.Decides.{not_from_Decides}
use Rattle.text.specs.Bytes.{equal}
use Rattle.text.specs.Splitting.{parts, rejoined}
use Rattle.text.proofs.Equals.{equal-decides}
use Rattle.text.proofs.Splits.{split_rejoined}
use Rattle.kinds.specs.declared.range.Range.{Range}
use Rattle.kinds.specs.Controller.{before, controller}
use Rattle.kinds.specs.Order.{Trichotomy}
use Rattle.kinds.specs.Range.{holding}
use Rattle.kinds.specs.RangeText.{range}
use Rattle.kinds.specs.Version.{lower, version}
use Rattle.kinds.proofs.Ranges.{sound}
use Rattle.kinds.proofs.Tables.{holding-decides, version_either, controller_either}
use Rattle.query.specs.declared.answer.Part.TheVariants as part
use Rattle.query.specs.Answers.{holds, leaves_out, unread, judged, judged_as, worded}
use Rattle.query.specs.Truth.{Told, Claims, True, Truthful}

-- what a judgement claims of the two texts, whatever follows from that
module _ {K : Type 0} (reads : List ℕ → Option K) (below : K → K → Bool) (either : (x y : K) → Trichotomy below x y) (line r v : List ℕ)
    (claims : (held : Bool) → Told reads below r v held → Claims line r v held) where
  answer-true : (read : Range K) (value : K) → range reads r ≡ Some read → reads v ≡ Some value → (t : Bool) → holding below read value ≡ t → True line (cond t (holds r v) (leaves_out r v))
  answer-true read value a b true e =
      claims true (record { range = read; value = value; range_reads = sound reads r read a; value_reads = b; answer = (holding-decides below either read value).0 e })
  answer-true read value a b false e =
      claims false (record { range = read; value = value; range_reads = sound reads r read a; value_reads = b; answer = not_from_Decides (holding below read value) (holding-decides below either read value) e })

  judged-true : (read : Option (Range K)) (value : Option K) → range reads r ≡ read → reads v ≡ value → True line (judged below r v read value)
  judged-true None value a b = tt
  judged-true (Some read) None a b = tt
  judged-true (Some read) (Some value) a b = answer-true read value a b (holding below read value) refl

asked-true : (line kind r v : List ℕ) → line ≡ kind ++ (32 ∷ (r ++ (32 ∷ v))) → (t u : Bool) → equal kind (codes "version") ≡ t → equal kind (codes "controller") ≡ u
    → True line (cond t (judged_as version lower r v) (cond u (judged_as controller before r v) (unread part.Kind)))
asked-true line kind r v e true u a b =
    judged-true version lower version_either line r v (λ held told. inl (e ∙ ap (λ (k : List ℕ). k ++ (32 ∷ (r ++ (32 ∷ v)))) ((equal-decides kind (codes "version")).0 a), told))
    (range version r) (version v) refl refl
asked-true line kind r v e false true a b =
    judged-true controller before controller_either line r v (λ held told. inr (e ∙ ap (λ (k : List ℕ). k ++ (32 ∷ (r ++ (32 ∷ v)))) ((equal-decides kind (codes "controller")).0 b), told))
    (range controller r) (controller v) refl refl
asked-true line kind r v e false false a b = tt

worded-true : (line : List ℕ) (words : List (List ℕ)) → rejoined 32 words ≡ line → True line (worded words)
worded-true line [] e = tt
worded-true line (kind ∷ []) e = tt
worded-true line (kind ∷ (r ∷ [])) e = tt
worded-true line (kind ∷ (r ∷ (v ∷ []))) e = asked-true line kind r v (sym e) (equal kind (codes "version")) (equal kind (codes "controller")) refl refl
worded-true line (kind ∷ (r ∷ (v ∷ (more ∷ words)))) e = tt

pub truthful : Truthful
truthful line = worded-true line (parts 32 line) (split_rejoined false 32 false line)
