-- The lines of a text, each with the offset of its first byte.
use Rattle.std.specs.Prelude.{ℕ, ◌+◌, List, [], ◌∷◌, length}

-- all bytes, with the line feed of each
abbrev pub total : List (List ℕ) → ℕ
total [] = 0
total (l ∷ ls) = length l + 1 + total ls

-- each with its offset, the first at that one
abbrev pub with_offsets : ℕ → List (List ℕ) → List (ℕ × List ℕ)
with_offsets at [] = []
with_offsets at (l ∷ ls) = (at, l) ∷ with_offsets (at + length l + 1) ls
