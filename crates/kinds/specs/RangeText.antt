-- What a text reads as, as a range, over what a text reads as, as a value of the kind.
use Rattle.std.specs.Prelude.{◌≡◌, ℕ, ◌+◌, ◌-◌, Bool, true, false, cond, ◌⊎◌, List, [], ◌∷◌, ◌++◌, length, take, drop, Some, None, Option, ◌==◌, nat_lt, slice_index}
use Rattle.std.specs.Option.{option_map}
use Rattle.text.specs.Splitting.{reach}
use Rattle.kinds.specs.declared.range.End.{End}
use Rattle.kinds.specs.declared.range.End.TheVariants.{Included, Excluded}
use Rattle.kinds.specs.declared.range.Range.{Range}
use Rattle.kinds.specs.declared.range.Range.TheVariants.{AtLeast, Between}
use Rattle.kinds.specs.Range.{is_included, value_of}

-- whether a bracket includes its end, of a side's two: the square one does, the round one does not, and no other byte is one
abbrev pub bracketing : ℕ → ℕ → ℕ → Option Bool
bracketing square round b = cond (b == square) (Some true) (cond (b == round) (Some false) None)

-- whether an opening bracket includes the floor: `[` does, `(` does not, and no other byte opens
abbrev pub opening : ℕ → Option Bool
opening b = bracketing 91 40 b

-- whether a closing bracket includes the ceiling: `]` does, `)` does not
abbrev pub closing : ℕ → Option Bool
closing b = bracketing 93 41 b

-- a text that reads as a value means that value or above
pub record Single {K : Type 0} (reads : List ℕ → Option K) (text : List ℕ) (r : Range K) : Type 0 where
  pub value : K
  pub reading : reads text ≡ Some value
  pub meaning : r ≡ AtLeast value

-- an opening bracket, a floor's text, a comma, a ceiling's text, a closing bracket
pub record Bracketed {K : Type 0} (reads : List ℕ → Option K) (text : List ℕ) (r : Range K) : Type 0 where
  pub opener : ℕ
  pub floor_text : List ℕ
  pub ceiling_text : List ℕ
  pub closer : ℕ
  pub form : text ≡ opener ∷ (floor_text ++ (44 ∷ (ceiling_text ++ (closer ∷ []))))
  pub floor : End K
  pub ceiling : End K
  pub opens : opening opener ≡ Some (is_included floor)
  pub starts : reads floor_text ≡ Some (value_of floor)
  pub stops : reads ceiling_text ≡ Some (value_of ceiling)
  pub closes : closing closer ≡ Some (is_included ceiling)
  pub meaning : r ≡ Between floor ceiling

-- the text reads as the range r
abbrev pub RangeText : {K : Type 0} → (List ℕ → Option K) → List ℕ → Range K → Type 0
RangeText reads text r = Single reads text r ⊎ Bracketed reads text r

-- an answer is the one thing of which P holds, or `None` where there is none
abbrev pub Only : {X : Type 0} → (X → Type 0) → Option X → Type 0
Only {X} P None = (x : X) → P x → ⊥
Only {X} P (Some x) = P x × ((y : X) → P y → y ≡ x)

-- The same as a function, for the definitions that compute with it.
abbrev pub end_of : {K : Type 0} → Option Bool → Option K → Option (End K)
end_of None value = None
end_of (Some included) None = None
end_of (Some true) (Some value) = Some (Included value)
end_of (Some false) (Some value) = Some (Excluded value)

-- an opening bracket and a floor's text
abbrev pub floor_of : {K : Type 0} → (List ℕ → Option K) → List ℕ → Option (End K)
floor_of reads text = end_of (opening (slice_index text 0)) (reads (drop 1 text))

-- a ceiling's text and a closing bracket
abbrev pub ceiling_of : {K : Type 0} → (List ℕ → Option K) → List ℕ → Option (End K)
ceiling_of reads text = end_of (closing (slice_index text (length text - 1))) (reads (take (length text - 1) text))

abbrev pub between : {K : Type 0} → Option (End K) → Option (End K) → Option (Range K)
between None ceiling = None
between (Some floor) None = None
between (Some floor) (Some ceiling) = Some (Between floor ceiling)

-- the text is cut at its first comma; without one it is a single value
abbrev pub range : {K : Type 0} → (List ℕ → Option K) → List ℕ → Option (Range K)
range reads text =
    let comma = reach false 44 false text in
    cond (nat_lt comma (length text)) (between (floor_of reads (take comma text)) (ceiling_of reads (drop (comma + 1) text))) (option_map AtLeast (reads text))
