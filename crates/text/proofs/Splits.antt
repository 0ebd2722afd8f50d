-- The pieces of a text: cut off one by one, put together again, without their separator.
use Rattle.std.proofs.Common.{◌≡◌, ℕ, suc, ◌+◌, ◌-◌, ◌<◌, ◌≤◌, Bool, true, false, cond, not, ◌&&◌, eqb, List, [], ◌∷◌, length, take, drop, refl, ap, arith}
use Rattle.std.specs.List.{AllByRecursion}
use Rattle.std.proofs.lemmas.List.{take_rest}
use Rattle.std.proofs.lemmas.Bool.{eqb-true}
use Rattle.text.specs.Bytes.{lacks}
use Rattle.text.specs.Splitting.{turned, reach, on_first, split, rejoined}

-- a separator ends the first piece
some-step : (quotes : Bool) (sep x : ℕ) (xs : List ℕ) (here now : Bool)
    → cond here 0 (suc (reach quotes sep now xs)) < suc (length xs)
    → (reach quotes sep now xs < length xs → split quotes sep now xs ≡ take (reach quotes sep now xs) xs ∷ split quotes sep false (drop (suc (reach quotes sep now xs)) xs))
    → cond here ([] ∷ split quotes sep (not here && now) xs) (on_first x (split quotes sep (not here && now) xs))
    ≡ take (cond here 0 (suc (reach quotes sep now xs))) (x ∷ xs) ∷ split quotes sep false (drop (suc (cond here 0 (suc (reach quotes sep now xs)))) (x ∷ xs))
some-step quotes sep x xs true now h more = refl
some-step quotes sep x xs false now h more = ap (on_first x) (more (omega arith))

pub split-some : (quotes : Bool) (sep : ℕ) (inside : Bool) (xs : List ℕ) → reach quotes sep inside xs < length xs
    → split quotes sep inside xs ≡ take (reach quotes sep inside xs) xs ∷ split quotes sep false (drop (suc (reach quotes sep inside xs)) xs)
split-some quotes sep inside [] h = absurd (omega arith)
split-some quotes sep inside (x ∷ xs) h =
    some-step quotes sep x xs (eqb x sep && not inside) (turned quotes inside x) h (split-some quotes sep (turned quotes inside x) xs)

-- without a separator the text is one piece
none-step : (quotes : Bool) (sep x : ℕ) (xs : List ℕ) (here now : Bool)
    → suc (length xs) ≤ cond here 0 (suc (reach quotes sep now xs))
    → (length xs ≤ reach quotes sep now xs → split quotes sep now xs ≡ xs ∷ [])
    → cond here ([] ∷ split quotes sep (not here && now) xs) (on_first x (split quotes sep (not here && now) xs)) ≡ (x ∷ xs) ∷ []
none-step quotes sep x xs true now h more = absurd (omega arith)
none-step quotes sep x xs false now h more = ap (on_first x) (more (omega arith))

pub split_none : (quotes : Bool) (sep : ℕ) (inside : Bool) (xs : List ℕ) → length xs ≤ reach quotes sep inside xs → split quotes sep inside xs ≡ xs ∷ []
split_none quotes sep inside [] h = refl
split_none quotes sep inside (x ∷ xs) h =
    none-step quotes sep x xs (eqb x sep && not inside) (turned quotes inside x) h (split_none quotes sep (turned quotes inside x) xs)

-- as the code cuts: the first piece is `&text[..n]`, and the rest `&text[n + 1..]`
pub split_at : (quotes : Bool) (sep n : ℕ) (xs : List ℕ) → n ≡ reach quotes sep false xs → n < length xs
    → split quotes sep false xs ≡ take n xs ∷ split quotes sep false (take (length xs - (n + 1)) (drop (n + 1) xs))
split_at quotes sep n xs e h =
    let b : n + 1 ≡ suc n = omega arith in
    let t = take_rest xs (n + 1) in
    let f = split-some quotes sep false xs (omega arith) in cc

-- the pieces and the separators between them are the text
on_first-rejoined : (sep x : ℕ) (ps : List (List ℕ)) (xs : List ℕ) → 0 < length ps → rejoined sep ps ≡ xs → rejoined sep (on_first x ps) ≡ x ∷ xs
on_first-rejoined sep x [] xs h e = absurd (omega arith)
on_first-rejoined sep x (p ∷ []) xs h e = ap (λ (ys : List ℕ). x ∷ ys) e
on_first-rejoined sep x (p ∷ (q ∷ ps)) xs h e = ap (λ (ys : List ℕ). x ∷ ys) e

empty-first : (sep x : ℕ) (ps : List (List ℕ)) (xs : List ℕ) → 0 < length ps → x ≡ sep → rejoined sep ps ≡ xs → rejoined sep ([] ∷ ps) ≡ x ∷ xs
empty-first sep x [] xs h s e = absurd (omega arith)
empty-first sep x (q ∷ ps) xs h s e = rw (s, e) refl

length_on_first : (x : ℕ) (ps : List (List ℕ)) → length (on_first x ps) ≡ length ps
length_on_first x [] = refl
length_on_first x (p ∷ ps) = refl

pub some-piece : (quotes : Bool) (sep : ℕ) (inside : Bool) (xs : List ℕ) → 0 < length (split quotes sep inside xs)
some-piece quotes sep inside [] = omega arith
some-piece quotes sep inside (x ∷ xs) = by (eqb x sep && not inside) (λ now. some-piece quotes sep now xs)
  where
    by : (here : Bool) → ((now : Bool) → 0 < length (split quotes sep now xs))
        → 0 < length (cond here ([] ∷ split quotes sep (not here && turned quotes inside x) xs) (on_first x (split quotes sep (not here && turned quotes inside x) xs)))
    by true more = omega arith
    by false more = omega (arith, more (turned quotes inside x), length_on_first x (split quotes sep (turned quotes inside x) xs))

rejoin_step : (quotes : Bool) (sep x : ℕ) (xs : List ℕ) (same now : Bool) → eqb x sep ≡ same
    → ((inside : Bool) → rejoined sep (split quotes sep inside xs) ≡ xs)
    → rejoined sep (cond (same && not now) ([] ∷ split quotes sep (not (same && not now) && turned quotes now x) xs) (on_first x (split quotes sep (not (same && not now) && turned quotes now x) xs))) ≡ x ∷ xs
rejoin_step quotes sep x xs true false e more =
    empty-first sep x (split quotes sep false xs) xs (some-piece quotes sep false xs) (eqb-true x sep e) (more false)
rejoin_step quotes sep x xs true true e more =
    on_first-rejoined sep x (split quotes sep (turned quotes true x) xs) xs (some-piece quotes sep (turned quotes true x) xs) (more (turned quotes true x))
rejoin_step quotes sep x xs false now e more =
    on_first-rejoined sep x (split quotes sep (turned quotes now x) xs) xs (some-piece quotes sep (turned quotes now x) xs) (more (turned quotes now x))

pub split_rejoined : (quotes : Bool) (sep : ℕ) (inside : Bool) (xs : List ℕ) → rejoined sep (split quotes sep inside xs) ≡ xs
split_rejoined quotes sep inside [] = refl
split_rejoined quotes sep inside (x ∷ xs) = rejoin_step quotes sep x xs (eqb x sep) inside refl (λ now. split_rejoined quotes sep now xs)

-- where quotes do not count, no piece has the separator in it
abbrev Apart : ℕ → List (List ℕ) → Type 0
Apart sep ps = AllByRecursion (λ p. lacks sep p ≡ true) ps

on_first-apart : (sep x : ℕ) (ps : List (List ℕ)) → eqb x sep ≡ false → Apart sep ps → Apart sep (on_first x ps)
on_first-apart sep x [] e h = tt
on_first-apart sep x (p ∷ ps) e h = (rw e h.0, h.1)

apart-step : (sep x : ℕ) (xs : List ℕ) (same : Bool) → eqb x sep ≡ same → Apart sep (split false sep false xs)
    → Apart sep (cond (same && true) ([] ∷ split false sep (not (same && true) && false) xs) (on_first x (split false sep (not (same && true) && false) xs)))
apart-step sep x xs true e more = (refl, more)
apart-step sep x xs false e more = on_first-apart sep x (split false sep false xs) e more

pub parts_apart : (sep : ℕ) (xs : List ℕ) → Apart sep (split false sep false xs)
parts_apart sep [] = (refl, tt)
parts_apart sep (x ∷ xs) = apart-step sep x xs (eqb x sep) refl (parts_apart sep xs)

-- no piece has a separator in it that counts: for the first, from where the text begins; for the others, from outside quotes
abbrev Whole : Bool → ℕ → Bool → List ℕ → Type 0
Whole quotes sep inside p = reach quotes sep inside p ≡ length p

abbrev Wholes : Bool → ℕ → Bool → List (List ℕ) → Type 0
Wholes quotes sep inside [] = Unit {0}
Wholes quotes sep inside (p ∷ ps) = Whole quotes sep inside p × AllByRecursion (Whole quotes sep false) ps

wholes_all : (quotes : Bool) (sep : ℕ) (ps : List (List ℕ)) → Wholes quotes sep false ps → AllByRecursion (Whole quotes sep false) ps
wholes_all quotes sep [] h = tt
wholes_all quotes sep (p ∷ ps) h = (h.0, h.1)

on_first-whole : (quotes : Bool) (sep : ℕ) (inside : Bool) (x : ℕ) (ps : List (List ℕ)) → (eqb x sep && not inside) ≡ false
    → Wholes quotes sep (turned quotes inside x) ps → Wholes quotes sep inside (on_first x ps)
on_first-whole quotes sep inside x [] e h = tt
on_first-whole quotes sep inside x (p ∷ ps) e h = (rw e (ap suc h.0), h.1)

whole-step : (quotes : Bool) (sep : ℕ) (inside : Bool) (x : ℕ) (xs : List ℕ) (here : Bool) → (eqb x sep && not inside) ≡ here
    → ((now : Bool) → Wholes quotes sep now (split quotes sep now xs))
    → Wholes quotes sep inside (cond here ([] ∷ split quotes sep (not here && turned quotes inside x) xs) (on_first x (split quotes sep (not here && turned quotes inside x) xs)))
whole-step quotes sep inside x xs true e more = (refl, wholes_all quotes sep (split quotes sep false xs) (more false))
whole-step quotes sep inside x xs false e more =
    on_first-whole quotes sep inside x (split quotes sep (turned quotes inside x) xs) e (more (turned quotes inside x))

split-whole : (quotes : Bool) (sep : ℕ) (inside : Bool) (xs : List ℕ) → Wholes quotes sep inside (split quotes sep inside xs)
split-whole quotes sep inside [] = (refl, tt)
split-whole quotes sep inside (x ∷ xs) = whole-step quotes sep inside x xs (eqb x sep && not inside) refl (λ now. split-whole quotes sep now xs)

pub split_apart : (quotes : Bool) (sep : ℕ) (xs : List ℕ) → AllByRecursion (λ p. reach quotes sep false p ≡ length p) (split quotes sep false xs)
split_apart quotes sep xs = wholes_all quotes sep (split quotes sep false xs) (split-whole quotes sep false xs)
