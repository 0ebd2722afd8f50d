-- A refusal points at the start of a line, or at the text's end.
use Rattle.std.proofs.Common.{◌≡◌, ℕ, zero, suc, ◌+◌, ◌-◌, Bool, true, false, cond, not, ◌&&◌, eqb, leb, ◌⊎◌, List, [], ◌∷◌, length, take, Some, None, Ok, Err, Option, Result, refl, ap, subst, inl, inr, arith}
use Rattle.std.proofs.lemmas.Bool.{eqb-true}
use Rattle.std.specs.List.{slice_get}
use Rattle.text.specs.Bytes.{every, printable}
use Rattle.text.specs.Splitting.{split, on_first, parts}
use Rattle.shelf.specs.Meaning.{Bundle}
use Rattle.manifest.specs.Questions.{FirstNo}
use Rattle.manifest.specs.Reading.{State, start, line_step, onward, walk, refused, stray_line, closed, lines_of, without, reading}
use Rattle.manifest.specs.Laws.{LineStart, PointsAtLines}

-- each of the lines begins where a line begins, the first at that offset
abbrev Starts : List ℕ → ℕ → List (List ℕ) → Type 0
Starts text at [] = Unit {0}
Starts text at (l ∷ ls) = LineStart text at × Starts text (at + length l + 1) ls

-- the same of all but the first
abbrev Later : List ℕ → ℕ → List (List ℕ) → Type 0
Later text at [] = Unit {0}
Later text at (l ∷ ls) = Starts text (at + length l + 1) ls

-- xs stands in the text from that offset on
abbrev From : List ℕ → ℕ → List ℕ → Type 0
From text at xs = (i b : ℕ) → slice_get xs i ≡ Some b → slice_get text (at + i) ≡ Some b

starts : (text : List ℕ) (at : ℕ) (ls : List (List ℕ)) → LineStart text at → Later text at ls → Starts text at ls
starts text at [] s l = tt
starts text at (x ∷ ls) s l = (s, l)

moved : (text : List ℕ) (at b : ℕ) (ls : List (List ℕ)) → Later text (at + 1) ls → Later text at (on_first b ls)
moved text at b [] h = tt
moved text at b (l ∷ ls) h = subst (λ n. Starts text n ls) (sum (length l)) h
  where
    sum : (n : ℕ) → at + 1 + n + 1 ≡ at + suc n + 1
    sum n = omega arith

further : (text : List ℕ) (at x : ℕ) (xs : List ℕ) → From text at (x ∷ xs) → From text (at + 1) xs
further text at x xs from i b h = subst (λ n. slice_get text n ≡ Some b) (over i) (from (suc i) b h)
  where
    over : (i : ℕ) → at + suc i ≡ at + 1 + i
    over i = omega arith

feed_start : (text : List ℕ) (at x : ℕ) (xs : List ℕ) → From text at (x ∷ xs) → (b : Bool) → eqb x 10 ≡ b → b && true ≡ true → LineStart text (at + 1)
feed_start text at x xs from true e h = inr (at, one at, subst (λ n. slice_get text n ≡ Some 10) (none at) (from 0 10 (ap Some (eqb-true x 10 e))))
  where
    none : (n : ℕ) → n + 0 ≡ n
    none n = omega arith

    one : (n : ℕ) → n + 1 ≡ suc n
    one n = omega arith
feed_start text at x xs from false e h = let no : ⊥ = subst (λ b. cond b ⊥ (Unit {0})) h tt in elim no [ ]

step : (text : List ℕ) (at x : ℕ) (xs : List ℕ) (h : Bool) → (h ≡ true → LineStart text (at + 1)) → Later text (at + 1) (parts 10 xs)
    → Later text at (cond h ([] ∷ split false 10 (not h && false) xs) (on_first x (split false 10 (not h && false) xs)))
step text at x xs true s rest = subst (λ n. Starts text n (parts 10 xs)) (next at) (starts text (at + 1) (parts 10 xs) (s refl) rest)
  where
    next : (n : ℕ) → n + 1 ≡ n + 0 + 1
    next n = omega arith
step text at x xs false s rest = moved text at x (parts 10 xs) rest

later : (text : List ℕ) (at : ℕ) (xs : List ℕ) → From text at xs → Later text at (parts 10 xs)
later text at [] from = tt
later text at (x ∷ xs) from = step text at x xs (eqb x 10 && true) (feed_start text at x xs from (eqb x 10) refl) (later text (at + 1) xs (further text at x xs from))

-- where a refusal may point
abbrev Points : List ℕ → Result (List Bundle) FirstNo → Type 0
Points text (Ok bs) = Unit {0}
Points text (Err r) = LineStart text r.offset ⊎ (r.offset ≡ length text)

walk_points : (text : List ℕ) (at : ℕ) (s : State) (ls : List (List ℕ)) → Starts text at ls → Points text (walk at s ls)
walk_points text at s [] h = tt
walk_points text at s (l ∷ ls) h = go (λ t. walk_points text (at + length l + 1) t ls h.1) (line_step s l)
  where
    go : ((t : State) → Points text (walk (at + length l + 1) t ls)) → (r : Result State ℕ) → Points text (onward at r (λ t. walk (at + length l + 1) t ls))
    go rest (Ok t) = rest t
    go rest (Err n) = inl h.0

stray_points : (text : List ℕ) (at : ℕ) (ls : List (List ℕ)) (r : Result (List Bundle) FirstNo) → Starts text at ls → Points text r → Points text (without (stray_line at ls) r)
stray_points text at [] r h p = p
stray_points text at (l ∷ ls) r h p = go (stray_points text (at + length l + 1) ls r h.1 p) (every printable l)
  where
    go : Points text (without (stray_line (at + length l + 1) ls) r) → (b : Bool) → Points text (without (cond b (stray_line (at + length l + 1) ls) (Some at)) r)
    go rest true = rest
    go rest false = inl h.0

abbrev IsNone : Option ℕ → Type 0
IsNone None = Unit {0}
IsNone (Some b) = ⊥

taken_from : (k : ℕ) (xs : List ℕ) (i b : ℕ) → slice_get (take k xs) i ≡ Some b → slice_get xs i ≡ Some b
taken_from zero xs i b h = let none : ⊥ = subst IsNone h tt in elim none [ ]
taken_from (suc k) [] i b h = h
taken_from (suc k) (x ∷ xs) zero b h = h
taken_from (suc k) (x ∷ xs) (suc i) b h = taken_from k xs i b h

points : (text : List ℕ) → Points text (reading text)
unfolding reading
points text = big (leb (length text) 65536)
  where
    whole : From text 0 text
    whole i b h = subst (λ n. slice_get text n ≡ Some b) (none i) h
      where
        none : (n : ℕ) → n ≡ 0 + n
        none n = omega arith

    part : From text 0 (take (length text - 1) text)
    part i b h = whole i b (taken_from (length text - 1) text i b h)

    shut : (b : Bool) → Points text (cond b (walk 0 start (lines_of text)) (refused 3 (length text)))
    shut true = walk_points text 0 start (lines_of text) (starts text 0 (lines_of text) (inl refl) (later text 0 (take (length text - 1) text) part))
    shut false = inr refl

    empty : (b : Bool) → Points text (cond b (Ok []) (cond (closed text) (walk 0 start (lines_of text)) (refused 3 (length text))))
    empty true = tt
    empty false = shut (closed text)

    big : (b : Bool) → Points text (cond b (without (stray_line 0 (parts 10 text)) (cond (eqb (length text) 0) (Ok []) (cond (closed text) (walk 0 start (lines_of text)) (refused 3 (length text))))) (refused 1 0))
    big true = stray_points text 0 (parts 10 text) _ (starts text 0 (parts 10 text) (inl refl) (later text 0 text whole)) (empty (eqb (length text) 0))
    big false = inl (inl refl)

pub points_at-lines : PointsAtLines
points_at-lines text r e = subst (Points text) e (points text)
