-- Walks over lines that have their offsets beside them.
use Rattle.std.proofs.Common.{◌≡◌, ℕ, ◌+◌, List, [], ◌∷◌, length, Ok, Err, Result, refl}
use Rattle.shelf.specs.Meaning.{Bundle}
use Rattle.manifest.specs.Lines.{with_offsets}
use Rattle.manifest.specs.Questions.{FirstNo}
use Rattle.manifest.specs.Reading.{State, line_step, onward, walk}

-- `walk`, where each line tells its offset
abbrev pub walk_over : State → List (ℕ × List ℕ) → Result (List Bundle) FirstNo
walk_over s [] = Ok s.bundles
walk_over s ((at, l) ∷ ls) = onward at (line_step s l) (λ t. walk_over t ls)

pub walk_is : (at : ℕ) (s : State) (ls : List (List ℕ)) → walk_over s (with_offsets at ls) ≡ walk at s ls
walk_is at s [] = refl
walk_is at s (l ∷ ls) = go (λ t. walk_is (at + length l + 1) t ls) (line_step s l)
  where
    go : ((t : State) → walk_over t (with_offsets (at + length l + 1) ls) ≡ walk (at + length l + 1) t ls) → (r : Result State ℕ)
        → onward at r (λ t. walk_over t (with_offsets (at + length l + 1) ls)) ≡ onward at r (λ t. walk (at + length l + 1) t ls)
    go rest (Ok t) = rest t
    go rest (Err n) = refl
