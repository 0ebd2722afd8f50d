-- Names: words joined by single dots.
use Rattle.std.specs.Prelude.{ℕ, Bool, true, false, not, ◌&&◌, ◌||◌, List, [], ◌∷◌}
use Rattle.text.specs.Bytes.{equal, is_word}
use Rattle.text.specs.Splitting.{parts}
use Rattle.shelf.specs.Meaning.{Name}

abbrev pub all : {X : Type 0} → (X → Bool) → List X → Bool
all p [] = true
all p (x ∷ xs) = p x && all p xs

-- every part between dots is a word, so no dot leads, trails or follows another
abbrev pub is_name : List ℕ → Bool
is_name text = all is_word (parts 46 text)

abbrev pub among : Name → List Name → Bool
among n [] = false
among n (m ∷ ms) = equal n m || among n ms

-- no name stands twice in the list
abbrev pub none_twice : List Name → Bool
none_twice [] = true
none_twice (n ∷ ns) = not (among n ns) && none_twice ns
