-- What `strip_prefix`, `strip_suffix` and `contains` say of keys and of quotes.
use Rattle.std.proofs.Common.{◌≡◌, ℕ, zero, suc, ◌-◌, Bool, true, false, cond, not, ◌&&◌, ◌||◌, eqb, List, [], ◌∷◌, length, take, drop, Some, None, Option, refl, arith}
use Rattle.std.proofs.lemmas.Bool.Decides.{nat_tests}
use Rattle.std.specs.Cmp.Lexicographic.{pointwise}
use Rattle.std.specs.List.{list_any}
use Rattle.text.specs.Bytes.{lacks}
use Rattle.manifest.specs.Parameters.{after, unquoted}

pub after_stripped : (key text : List ℕ) → after key text ≡ cond (pointwise eqb (take (length key) text) key) (Some (drop (length key) text)) None
after_stripped [] text = refl
after_stripped (k ∷ ks) [] = refl
after_stripped (k ∷ ks) (b ∷ bs) = let rest = after_stripped ks bs in grind (arith, nat_tests)

pub lacks_uncontained : (b : ℕ) (text : List ℕ) → lacks b text ≡ not (list_any (λ x. eqb x b) text)
lacks_uncontained b [] = refl
lacks_uncontained b (x ∷ xs) = go (eqb x b) (lacks_uncontained b xs)
  where
    go : (h : Bool) → lacks b xs ≡ not (list_any (λ y. eqb y b) xs) → (not h && lacks b xs) ≡ not (h || list_any (λ y. eqb y b) xs)
    go true e = refl
    go false e = e

-- the text before its last byte, if that is a double quote and no other is before it
abbrev Inner : ℕ → List ℕ → Option (List ℕ)
Inner n text = cond (pointwise eqb (drop n text) (34 ∷ [])) (cond (lacks 34 (take n text)) (Some (take n text)) None) None

inner : (n : ℕ) (text : List ℕ) → length text ≡ suc n → unquoted text ≡ Inner n text
inner n [] e = absurd (omega (arith, e))
inner zero (x ∷ []) e = grind (arith, nat_tests)
inner zero (x ∷ (y ∷ ys)) e = absurd (omega (arith, e))
inner (suc n) (x ∷ xs) e = let more = inner n xs (omega (arith, e)) in grind (arith, nat_tests)

pub unquoted_stripped : (text : List ℕ) → unquoted text ≡ Inner (length text - 1) text
unquoted_stripped [] = refl
unquoted_stripped (x ∷ xs) = inner (length (x ∷ xs) - 1) (x ∷ xs) (omega arith)
