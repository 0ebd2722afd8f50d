-- What the limits say of the exports of a place: none past the sixteenth, and none twice.
use Rattle.std.proofs.Common.{◌≡◌, ℕ, ◌<◌, ◌≤◌, IfSome, Some, None, MatchOption, Option, sym, ◌∙◌, ⊎_elim, arith}
use Rattle.std.specs.Option.{option_map}
use Rattle.std.specs.List.{slice_get}
use Rattle.std.proofs.lemmas.Option.{slice_get_past}
use Rattle.std.proofs.lemmas.Bool.{cases_lt}
use Rattle.shelf.specs.Meaning.{Name, Bundle, Meaning, FewItems, WellFormed, bound, bundle_at}
use Rattle.shelf.specs.Looked.{ExportsAt, Exports, Found, Only}
use Rattle.shelf.proofs.Every.{unmapped}

-- the bundle's export j is of that package
abbrev Offers : Option Bundle → ℕ → Name → Type 0
Offers o j name = option_map (λ e. e.name) (bound o (λ b. slice_get b.exports j)) ≡ Some name

once : (o : Option Bundle) (i j : ℕ) (name : Name) → IfSome o FewItems → Offers o i name → Offers o j name → i ≡ j
once None i j name h p q = cc
once (Some b) i j name h p q =
    let (e, at_i, e-name) = unmapped (λ e. e.name) (slice_get b.exports i) name p in
    let (f, at_j, f-name) = unmapped (λ e. e.name) (slice_get b.exports j) name q in
    h.exports.once i j e f at_i at_j (e-name ∙ sym f-name)

past : (o : Option Bundle) (j : ℕ) (name : Name) → IfSome o FewItems → 16 ≤ j → Offers o j name → ⊥
past None j name h le p = cc
past (Some b) j name h le p =
    let e = slice_get_past b.exports j (omega (arith, h.exports.most)) in cc

pub only_here : (m : Meaning) (place j : ℕ) (name : Name) → WellFormed m → ExportsAt m place j name → Only m place name j
only_here m place j name w here = (here, λ i there. once (bundle_at m place) i j name (w.each place) there here)

found_nowhere : (m : Meaning) (place : ℕ) (name : Name) → WellFormed m → ((i : ℕ) → i < 16 → ExportsAt m place i name → ⊥) → Exports m place name → ⊥
found_nowhere m place name w below (j, here) =
    ⊎_elim (λ lt. below j lt here) (λ le. past (bundle_at m place) j name (w.each place) le here) (cases_lt j 16)

-- what a search through the sixteen finds
pub found : (m : Meaning) (place : ℕ) (name : Name) (r : Option ℕ) → WellFormed m → MatchOption r ((j : ℕ) → 0 ≤ j → j < 16 → ExportsAt m place j name → ⊥) (λ j. (0 ≤ j) × (j < 16) × Only m place name j × ((i : ℕ) → 0 ≤ i → i < j → ExportsAt m place i name → ⊥)) → Found m place name r
found m place name None w none = found_nowhere m place name w (λ i lt. none i (omega arith) lt)
found m place name (Some j) w first = first.2
