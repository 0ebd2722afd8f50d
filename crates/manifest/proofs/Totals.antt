-- How long the pieces of a text are together.
use Rattle.std.proofs.Common.{◌≡◌, ℕ, suc, ◌+◌, ◌<◌, ◌≤◌, Bool, true, false, cond, not, ◌&&◌, eqb, List, [], ◌∷◌, length, refl, ap, arith}
use Rattle.text.proofs.Splits.{some-piece}
use Rattle.text.specs.Splitting.{on_first, parts, split, turned}
use Rattle.manifest.specs.Lines.{total}

total-step : (quotes : Bool) (sep x : ℕ) (xs : List ℕ) (here now : Bool) → ((inside : Bool) → total (split quotes sep inside xs) ≡ length xs + 1) → ((inside : Bool) → 0 < length (split quotes sep inside xs))
    → total (cond here ([] ∷ split quotes sep (not here && now) xs) (on_first x (split quotes sep (not here && now) xs))) ≡ suc (length xs) + 1
total-step quotes sep x xs true now ih nz = omega (arith, ih false)
total-step quotes sep x xs false now ih nz = omega (arith, ih now, first-total x (split quotes sep now xs) (nz now))
  where
    first-total : (x : ℕ) (ps : List (List ℕ)) → 0 < length ps → total (on_first x ps) ≡ total ps + 1
    first-total x [] h = absurd (omega arith)
    first-total x (p ∷ ps) h = omega arith

pub total-split : (quotes : Bool) (sep : ℕ) (inside : Bool) (xs : List ℕ) → total (split quotes sep inside xs) ≡ length xs + 1
total-split quotes sep inside [] = refl
total-split quotes sep inside (x ∷ xs) = total-step quotes sep x xs (eqb x sep && not inside) (turned quotes inside x) (λ q. total-split quotes sep q xs) (λ q. some-piece quotes sep q xs)

-- the lines of a text that is short enough
pub fits_lines : (text : List ℕ) (ls : List (List ℕ)) → ls ≡ parts 10 text → length text ≤ 65536 → 0 + total ls ≤ 65537
fits_lines text ls e h = omega (arith, ap total e, total-split false 10 false text)
