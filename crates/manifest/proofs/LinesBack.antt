-- A text of printable lines, each with its line feed, is taken apart into those lines.
use Rattle.std.proofs.Common.{◌≡◌, ℕ, ◌+◌, ◌-◌, true, false, not, ◌||◌, eqb, List, [], ◌∷◌, ◌++◌, length, get_or, None, sym, refl, ap, ◌∙◌, append_assoc, arith, length-append}
use Rattle.std.specs.List.{AllByRecursion}
use Rattle.std.proofs.ByRecursion.{All-append, All-weaker}
use Rattle.std.proofs.lemmas.List.{take_at, get_or-append-add, length_push}
use Rattle.std.proofs.lemmas.Bool.{and_from, or_right, eq-eqb}
use Rattle.std.proofs.lemmas.Bool.Decides.{nat_tests}
use Rattle.text.specs.Splitting.{parts, rejoined}
use Rattle.text.specs.Bytes.{printable}
use Rattle.manifest.specs.Reading.{stray_line, closed, lines_of}
use Rattle.manifest.proofs.Calm.{Calm, at, calm-lacks, split-join}
use Rattle.manifest.proofs.Bytes.{Prints, every_weaker}

abbrev pub ended : List (List ℕ) → List ℕ
ended [] = []
ended (l ∷ ls) = l ++ (10 ∷ ended ls)

ended-append : (xs ys : List (List ℕ)) → ended (xs ++ ys) ≡ ended xs ++ ended ys
ended-append [] ys = refl
ended-append (x ∷ xs) ys = ap (λ t. x ++ (10 ∷ t)) (ended-append xs ys) ∙ sym (append_assoc x (10 ∷ ended xs) (ended ys))

pub ended-both : (xs ys : List (List ℕ)) (s t : List ℕ) → s ≡ ended xs → t ≡ ended ys → s ++ t ≡ ended (xs ++ ys)
ended-both xs ys s t e f = ap (λ u. u ++ t) e ∙ ap (λ u. ended xs ++ u) f ∙ sym (ended-append xs ys)

-- the empty text after the last line feed is a line too
ended-rejoined : (ls : List (List ℕ)) → ended ls ≡ rejoined 10 (ls ++ ([] ∷ []))
ended-rejoined [] = refl
ended-rejoined (l ∷ []) = refl
ended-rejoined (l ∷ (m ∷ ls)) = ap (λ t. l ++ (10 ∷ t)) (ended-rejoined (m ∷ ls))

ended-last : (l : List ℕ) (ls : List (List ℕ)) → ended (l ∷ ls) ≡ rejoined 10 (l ∷ ls) ++ (10 ∷ [])
ended-last l [] = refl
ended-last l (m ∷ ls) = ap (λ t. l ++ (10 ∷ t)) (ended-last m ls) ∙ sym (append_assoc l (10 ∷ rejoined 10 (m ∷ ls)) (10 ∷ []))

no_feed : (b : ℕ) → printable b ≡ true → not (eqb b 10) ≡ true
no_feed b h = grind (arith, nat_tests)

prints_calm : (l : List ℕ) → Prints l → Calm (at 10) false false l
prints_calm l h = calm-lacks 10 l (every_weaker printable (λ x. not (eqb x 10)) no_feed l h)

all-calm : (ls : List (List ℕ)) → AllByRecursion Prints ls → AllByRecursion (Calm (at 10) false false) ls
all-calm ls h = All-weaker Prints (Calm (at 10) false false) prints_calm ls h

-- the lines, without that after the last line feed and with it
pub lines_back : (l : List ℕ) (ls : List (List ℕ)) → AllByRecursion Prints (l ∷ ls) → lines_of (ended (l ∷ ls)) ≡ l ∷ ls
lines_back l ls h =
    let front = rejoined 10 (l ∷ ls) in
    let n : length front ≡ length (front ++ (10 ∷ [])) - 1 = omega (arith, length_push front 10) in
    ap lines_of (ended-last l ls) ∙ ap (parts 10) (take_at front (10 ∷ []) (length (front ++ (10 ∷ [])) - 1) n) ∙ split-join false 10 l ls (all-calm (l ∷ ls) h)

parts_back : (ls : List (List ℕ)) → AllByRecursion Prints ls → parts 10 (ended ls) ≡ ls ++ ([] ∷ [])
parts_back [] h = refl
parts_back (l ∷ ls) h = ap (parts 10) (ended-rejoined (l ∷ ls)) ∙ split-join false 10 l (ls ++ ([] ∷ [])) (All-append (Calm (at 10) false false) (l ∷ ls) ([] ∷ []) (all-calm (l ∷ ls) h) (refl, tt))

-- none of them has a stray byte
none-stray : (n : ℕ) (ls : List (List ℕ)) → AllByRecursion Prints ls → stray_line n ls ≡ None
none-stray n [] h = refl
none-stray n (l ∷ ls) h = rw h.0 (none-stray (n + length l + 1) ls h.1)

pub text-stray : (ls : List (List ℕ)) → AllByRecursion Prints ls → stray_line 0 (parts 10 (ended ls)) ≡ None
text-stray ls h = ap (stray_line 0) (parts_back ls h) ∙ none-stray 0 (ls ++ ([] ∷ [])) (All-append Prints ls ([] ∷ []) h (refl, tt))

-- two line feeds at the end close a text
pub closed_back : (front : List ℕ) → closed (front ++ (10 ∷ (10 ∷ []))) ≡ true
closed_back front =
    let text = front ++ (10 ∷ (10 ∷ [])) in
    let long = length-append front (10 ∷ (10 ∷ [])) in
    let one : length text - 1 ≡ length front + 1 = omega arith in
    let two : length text - 2 ≡ length front + 0 = omega arith in
    let last : get_or text (length text - 1) 0 ≡ 10 = ap (λ k. get_or text k 0) one ∙ get_or-append-add front (10 ∷ (10 ∷ [])) 1 0 in
    let before : get_or text (length text - 2) 0 ≡ 10 = ap (λ k. get_or text k 0) two ∙ get_or-append-add front (10 ∷ (10 ∷ [])) 0 0 in
    and_from (eqb (get_or text (length text - 1) 0) 10) (eqb (length text) 1 || eqb (get_or text (length text - 2) 0) 10) (eq-eqb (get_or text (length text - 1) 0) 10 last)
    (or_right (eqb (length text) 1) (eqb (get_or text (length text - 2) 0) 10) (eq-eqb (get_or text (length text - 2) 0) 10 before))

-- an empty line after another line, and its line feed, are such an end
pub ended-closed : (l : List ℕ) (ls : List (List ℕ)) → (front : List ℕ) × (ended ((l ∷ ls) ++ ([] ∷ [])) ≡ front ++ (10 ∷ (10 ∷ [])))
ended-closed l ls = (rejoined 10 (l ∷ ls), ended-append (l ∷ ls) ([] ∷ []) ∙ ap (λ t. t ++ (10 ∷ [])) (ended-last l ls) ∙ append_assoc (rejoined 10 (l ∷ ls)) (10 ∷ []) (10 ∷ []))
