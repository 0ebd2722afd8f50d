-- Partial wirings: what is known of sources while needs are open. Touches and conflicts follow known sources only.
use Rattle.std.specs.Prelude.{◌≡◌, ℕ, true, ◌⊎◌, is_some, Option}
use Rattle.shelf.specs.Meaning.{Name, Meaning}
use Rattle.wiring.specs.declared.choice.Choice.{Choice}
use Rattle.wiring.specs.Sources.{Importing, Requiring, Reexporting, Imports, Brought, Source, Sourcing}
use Rattle.wiring.specs.Wirings.{Table}

abbrev pub Decided : Option Choice → Type 0
Decided o = is_some o ≡ true

-- no require that the sources at b can go through is open
abbrev pub Settled : Meaning → Table → ℕ → Type 0
Settled m t b = ((k : ℕ) → Requiring m b k → Decided (t b k)) × ((a k : ℕ) → Brought m t b a → Reexporting m a k → Decided (t a k))

-- the sources of p at b are known: an import of p is decided, and it is wired or the requires are decided too; own needs do not count
abbrev pub Known : Meaning → Table → Name → ℕ → Type 0
Known m t p b = ((k : ℕ) → Importing m b k p → Decided (t b k)) × (((c : ℕ) × Imports m t b p c) ⊎ Settled m t b)

-- x is a known source of p at b
abbrev pub KnownSource : Meaning → Table → Sourcing
KnownSource m t p b x = Known m t p b × Source m t p b x
