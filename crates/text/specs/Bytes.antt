-- Kinds of bytes, and what holds of every byte of a text.
use Rattle.std.specs.Prelude.{ℕ, Bool, true, false, not, ◌&&◌, ◌||◌, List, [], ◌∷◌, ◌==◌, length, nat_le, nat_lt}

-- from `0` to `9`
abbrev pub digit : ℕ → Bool
digit b = nat_le 48 b && nat_le b 57

-- letters, digits, `_` and `-`
abbrev pub word : ℕ → Bool
word b = (nat_le 97 b && nat_le b 122) || ((nat_le 65 b && nat_le b 90) || (digit b || (b == 95 || b == 45)))

-- from the space to `~`
abbrev pub printable : ℕ → Bool
printable b = nat_le 32 b && nat_le b 126

abbrev pub every : (ℕ → Bool) → List ℕ → Bool
every p [] = true
every p (b ∷ bs) = p b && every p bs

-- letters, digits, `_` and `-`, at least one
abbrev pub is_word : List ℕ → Bool
is_word text = nat_lt 0 (length text) && every word text

-- the byte b is not in the text
abbrev pub lacks : ℕ → List ℕ → Bool
lacks b text = every (λ x. not (x == b)) text

-- the same bytes in the same order
abbrev pub equal : List ℕ → List ℕ → Bool
equal [] [] = true
equal [] (y ∷ ys) = false
equal (x ∷ xs) [] = false
equal (x ∷ xs) (y ∷ ys) = x == y && equal xs ys
