-- What is refused, and the number of the refusal.
use Rattle.std.specs.Prelude.{◌≡◌, ℕ, ◌<◌, ◌≤◌, Result, MatchResult}
use Rattle.shelf.specs.declared.refusal.PlainRefusal.{PlainRefusal}
use Rattle.shelf.specs.declared.refusal.PlainRefusal.TheVariants.{LimitBroken}
use Rattle.shelf.specs.declared.refusal.HideRefusal.{HideRefusal}
use Rattle.shelf.specs.declared.refusal.HideRefusal.TheVariants.{NoSuchPlace}
use Rattle.shelf.specs.Meaning.{Meaning, WellFormed}

abbrev pub hide_number : HideRefusal → ℕ
hide_number NoSuchPlace = 29

-- granted for every place below 64, whatever the count; refused for any other
abbrev pub HideAnswer : {T : Type 0} → ℕ → Result T HideRefusal → Type 0
HideAnswer place r = MatchResult r (λ _. place < 64) (λ e. (64 ≤ place) × (hide_number e ≡ 29))

-- why plain values are refused: they break a limit; it has no number
abbrev pub PlainRefused : PlainRefusal → Meaning → Type 0
PlainRefused LimitBroken m = WellFormed m → ⊥
