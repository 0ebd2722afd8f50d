-- Pieces put together are split again where no separator stands in them outside quotes.
use Rattle.std.proofs.Common.{◌≡◌, ℕ, Bool, true, false, not, ◌&&◌, eqb, List, [], ◌∷◌, ◌++◌, refl, ap, ◌∙◌, arith}
use Rattle.std.specs.List.{AllByRecursion}
use Rattle.std.proofs.lemmas.Bool.{and_parts, eq-eqb, not-true}
use Rattle.text.specs.Bytes.{every, lacks}
use Rattle.text.specs.Splitting.{turned, on_first, split, rejoined}

-- no byte that stops stands outside quotes, and the quotes are closed at the end
abbrev pub Calm : (ℕ → Bool) → Bool → Bool → List ℕ → Type 0
Calm stop quotes inside [] = inside ≡ false
Calm stop quotes inside (x ∷ xs) = ((stop x && not inside) ≡ false) × Calm stop quotes (turned quotes inside x) xs

abbrev pub at : ℕ → ℕ → Bool
at sep x = eqb x sep

-- the same as a test, for texts that are known
abbrev pub calm : (ℕ → Bool) → Bool → Bool → List ℕ → Bool
calm stop quotes inside [] = not inside
calm stop quotes inside (x ∷ xs) = not (stop x && not inside) && calm stop quotes (turned quotes inside x) xs

pub calm_test : (stop : ℕ → Bool) (quotes inside : Bool) (xs : List ℕ) → calm stop quotes inside xs ≡ true → Calm stop quotes inside xs
calm_test stop quotes inside [] h = not-true inside h
calm_test stop quotes inside (x ∷ xs) h =
    let both = and_parts (not (stop x && not inside)) (calm stop quotes (turned quotes inside x) xs) h in
    (not-true (stop x && not inside) both.0, calm_test stop quotes (turned quotes inside x) xs both.1)

pub and_none : (a : Bool) → (a && false) ≡ false
and_none true = refl
and_none false = refl

still : (a b q : Bool) → (a ≡ false → b ≡ false) → (a && q) ≡ false → (b && q) ≡ false
still a b false f h = and_none b
still true b true f h = let z : ◌≡◌ {A = ℕ} 0 1 = cc in absurd (omega arith)
still false b true f h = rw (f refl) refl

-- calm for fewer stops
pub calm_fewer : (stop least : ℕ → Bool) → ((x : ℕ) → stop x ≡ false → least x ≡ false) → (quotes inside : Bool) (xs : List ℕ) → Calm stop quotes inside xs → Calm least quotes inside xs
calm_fewer stop least f quotes inside [] h = h
calm_fewer stop least f quotes inside (x ∷ xs) h = (still (stop x) (least x) (not inside) (f x) h.0, calm_fewer stop least f quotes (turned quotes inside x) xs h.1)

pub calm-append : (stop : ℕ → Bool) (quotes inside : Bool) (xs ys : List ℕ) → Calm stop quotes inside xs → Calm stop quotes false ys → Calm stop quotes inside (xs ++ ys)
calm-append stop quotes inside [] ys h k = rw h k
calm-append stop quotes inside (x ∷ xs) ys h k = (h.0, calm-append stop quotes (turned quotes inside x) xs ys h.1 k)

-- a text of bytes that neither stop nor quote
pub calm-every : (p stop : ℕ → Bool) (quotes : Bool) → ((x : ℕ) → p x ≡ true → (stop x ≡ false) × (turned quotes false x ≡ false)) → (xs : List ℕ) → every p xs ≡ true → Calm stop quotes false xs
calm-every p stop quotes f [] h = refl
calm-every p stop quotes f (x ∷ xs) h =
    let both = and_parts (p x) (every p xs) h in
    let here = f x both.0 in
    (rw here.0 refl, rw here.1 (calm-every p stop quotes f xs both.1))

-- where quotes do not count, a text without the separator
pub calm-lacks : (sep : ℕ) (xs : List ℕ) → lacks sep xs ≡ true → Calm (at sep) false false xs
calm-lacks sep xs h = calm-every (λ x. not (eqb x sep)) (at sep) false (λ x k. (not-true (eqb x sep) k, refl)) xs h

-- pieces put together with another byte between them
pub calm_join : (stop : ℕ → Bool) (quotes : Bool) (b : ℕ) → stop b ≡ false → turned quotes false b ≡ false → (ps : List (List ℕ)) → AllByRecursion (Calm stop quotes false) ps → Calm stop quotes false (rejoined b ps)
calm_join stop quotes b e f [] h = refl
calm_join stop quotes b e f (p ∷ []) h = h.0
calm_join stop quotes b e f (p ∷ (q ∷ ps)) h =
    calm-append stop quotes false p (b ∷ rejoined b (q ∷ ps)) h.0 (rw e refl, rw f (calm_join stop quotes b e f (q ∷ ps) h.1))

module _ (quotes : Bool) (sep : ℕ) where
  calm_end : (inside : Bool) (p : List ℕ) → Calm (at sep) quotes inside p → split quotes sep inside p ≡ p ∷ []
  calm_end inside [] h = refl
  calm_end inside (x ∷ xs) h = rw h.0 (ap (on_first x) (calm_end (turned quotes inside x) xs h.1))

  calm_more : (inside : Bool) (p rest : List ℕ) → Calm (at sep) quotes inside p → split quotes sep inside (p ++ (sep ∷ rest)) ≡ p ∷ split quotes sep false rest
  calm_more inside [] rest h = rw (h, eq-eqb sep sep refl) refl
  calm_more inside (x ∷ xs) rest h = rw h.0 (ap (on_first x) (calm_more (turned quotes inside x) xs rest h.1))

  pub split-join : (p : List ℕ) (ps : List (List ℕ)) → AllByRecursion (Calm (at sep) quotes false) (p ∷ ps) → split quotes sep false (rejoined sep (p ∷ ps)) ≡ p ∷ ps
  split-join p [] h = calm_end false p h.0
  split-join p (q ∷ ps) h = calm_more false p (rejoined sep (q ∷ ps)) h.0 ∙ ap (λ r. p ∷ r) (split-join q ps h.1)
