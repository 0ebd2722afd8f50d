-- The pieces of a text between separators.
use Rattle.std.specs.Prelude.{◌≡◌, ℕ, suc, ◌<◌, Bool, false, cond, not, ◌&&◌, List, [], ◌∷◌, ◌++◌, Option, ◌==◌, MatchOption}

-- Whether separators inside double quotes count as well (`false`), or only those outside (`true`), says `quotes`;
-- `inside` is where the text begins.

-- inside quotes after the byte x?
abbrev pub turned : Bool → Bool → ℕ → Bool
turned quotes inside x = cond (quotes && x == 34) (not inside) inside

-- how many bytes stand before the first separator
abbrev pub reach : Bool → ℕ → Bool → List ℕ → ℕ
reach quotes sep inside [] = 0
reach quotes sep inside (x ∷ xs) = cond (x == sep && not inside) 0 (suc (reach quotes sep (turned quotes inside x) xs))

-- the place of the first of n bytes that is a separator, where `reached` bytes stand before it; none where all do
abbrev pub Finds : ℕ → ℕ → Option ℕ → Type 0
Finds reached n result = MatchOption result (reached ≡ n) (λ at. (at ≡ reached) × (at < n))

-- one byte more at the front of the first piece
abbrev pub on_first : ℕ → List (List ℕ) → List (List ℕ)
on_first x [] = []
on_first x (p ∷ ps) = (x ∷ p) ∷ ps

-- the pieces: one more than there are separators
abbrev pub split : Bool → ℕ → Bool → List ℕ → List (List ℕ)
split quotes sep inside [] = [] ∷ []
split quotes sep inside (x ∷ xs) =
    let here = x == sep && not inside in
    let rest = split quotes sep (not here && turned quotes inside x) xs in
    cond here ([] ∷ rest) (on_first x rest)

-- the parts between the bytes `sep`, wherever they stand
abbrev pub parts : ℕ → List ℕ → List (List ℕ)
parts sep text = split false sep false text

-- the pieces put together again, with a separator between each two
abbrev pub rejoined : ℕ → List (List ℕ) → List ℕ
rejoined sep [] = []
rejoined sep (p ∷ []) = p
rejoined sep (p ∷ (q ∷ ps)) = p ++ (sep ∷ rejoined sep (q ∷ ps))
