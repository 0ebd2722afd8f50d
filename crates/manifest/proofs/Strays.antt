-- The first line with a stray byte, where each line tells its offset.
use Rattle.std.proofs.Common.{◌≡◌, ℕ, ◌+◌, Bool, true, false, cond, not, List, [], ◌∷◌, length, Some, None, Option, refl}
use Rattle.text.specs.Bytes.{every, printable}
use Rattle.manifest.specs.Lines.{with_offsets}
use Rattle.manifest.specs.Reading.{stray_line}

abbrev pub is_stray : ℕ × List ℕ → Bool
is_stray l = not (every printable l.1)

-- `stray_line`, where each line tells its offset
abbrev pub stray_over : List (ℕ × List ℕ) → Option ℕ
stray_over [] = None
stray_over (l ∷ ls) = cond (is_stray l) (Some l.0) (stray_over ls)

pub stray_is : (at : ℕ) (ls : List (List ℕ)) → stray_over (with_offsets at ls) ≡ stray_line at ls
stray_is at [] = refl
stray_is at (l ∷ ls) = go (every printable l) (stray_is (at + length l + 1) ls)
  where
    go : (b : Bool) → stray_over (with_offsets (at + length l + 1) ls) ≡ stray_line (at + length l + 1) ls
        → cond (not b) (Some at) (stray_over (with_offsets (at + length l + 1) ls)) ≡ cond b (stray_line (at + length l + 1) ls) (Some at)
    go true e = e
    go false e = refl
