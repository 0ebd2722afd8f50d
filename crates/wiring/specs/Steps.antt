-- What deciding a need, and taking that back, do to a partial wiring.
use Rattle.std.specs.Prelude.{◌≡◌, ℕ, ◌+◌, ◌-◌, ◌<◌, ◌≤◌, cond, ◌&&◌, Some, None, Option, Result, ◌==◌}
use Rattle.std.specs.Option as options
use Rattle.std.specs.Result as results
use Rattle.wiring.specs.declared.choice.Choice.{Choice}
use Rattle.wiring.specs.declared.partial.PartialWiring.{PartialWiring}
use Rattle.wiring.specs.declared.refusal.DecideRefusal.{DecideRefusal}
use Rattle.wiring.specs.declared.refusal.DecideRefusal.TheVariants.{NoSuchPlace, AllDecided}
use Rattle.wiring.specs.Counted.{count_of, table_of}
use Rattle.wiring.specs.Wirings.{Table}

-- t' says that of need k of b, and of every other what t says
abbrev pub Writes : Table → ℕ → ℕ → Option Choice → Table → Type 0
Writes t b k o t' = (a i : ℕ) → t' a i ≡ cond (a == b && i == k) o (t a i)

-- why a choice is refused: there is no such place, or all 16 needs of it are decided
abbrev pub Refused : DecideRefusal → ℕ → ℕ → Type 0
Refused NoSuchPlace place count = 64 ≤ place
Refused AllDecided place count = (place < 64) × (16 ≤ count)

-- a counter of one place is written, and no other
abbrev pub Counts : PartialWiring → ℕ → ℕ → PartialWiring → Type 0
Counts w place count w' = (b : ℕ) → count_of w' b ≡ cond (b == place) count (count_of w b)

-- the first open need of the place has the choice; or nothing is changed
abbrev pub Decide : {U : Type 0} → PartialWiring → ℕ → Choice → PartialWiring → Result U DecideRefusal → Type 0
Decide w place choice w' r =
    results.MatchResult r
    (λ _. (place < 64) × (count_of w place < 16) × Counts w place (count_of w place + 1) w' × Writes (table_of w) place (count_of w place) (Some choice) (table_of w'))
    (λ refusal. Refused refusal place (count_of w place) × (w' ≡ w))

-- the last decided need of the place, which had the choice, is open; or none was decided and nothing is changed
abbrev pub Retract : PartialWiring → ℕ → PartialWiring → Option Choice → Type 0
Retract w place w' r =
    options.MatchOption r
    ((count_of w place ≡ 0) × (w' ≡ w))
    (λ choice. (0 < count_of w place) × (table_of w place (count_of w place - 1) ≡ Some choice) × Counts w place (count_of w place - 1) w' × Writes (table_of w) place (count_of w place - 1) None (table_of w'))
