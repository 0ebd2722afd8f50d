-- What `find` gives, where the first hit of a list is asked of one element after the other.
use Rattle.std.proofs.Common.{◌≡◌, ℕ, zero, suc, ◌<◌, Bool, true, false, cond, List, [], ◌∷◌, length, Some, None, Option, sym, ap, ◌∙◌, arith}
use Rattle.std.proofs.lemmas.Iterator.{YieldsList, first_from_find}
use Rattle.std.specs.Fn.{CalledAt}
use Rattle.std.specs.Iterator.{YieldsThen}
use Rattle.std.specs.List.{AllWithin, FoldsTo, HoldsAt}
use Rattle.std.specs.Option.{MatchOption, option_map}
use Rattle.std.specs.Borrow.{Bor}
use denote.Param.Members.{Mut}

module _ {X Y : Type 0} (first : List X → Option Y) (p : X → Bool) (said : X → Y) (none : first [] ≡ None) (more : (x : X) (xs : List X) → first (x ∷ xs) ≡ cond (p x) (Some (said x)) (first xs)) where
  hit : (x : X) (xs : List X) → p x ≡ true → first (x ∷ xs) ≡ Some (said x)
  hit x xs e = more x xs ∙ ap (λ b. cond b (Some (said x)) (first xs)) e

  miss : (x : X) (xs : List X) → p x ≡ false → first (x ∷ xs) ≡ first xs
  miss x xs e = more x xs ∙ ap (λ b. cond b (Some (said x)) (first xs)) e

  no_hit : (xs : List X) → AllWithin (λ x. p x ≡ false) xs 0 (length xs) → None ≡ first xs
  no_hit [] h = sym none
  no_hit (x ∷ xs) h = no_hit xs (λ k d a b. h (suc k) d (omega arith) (omega (arith, b))) ∙ sym (miss x xs (h 0 x (omega arith) (omega arith)))

  hit_at : (xs : List X) (x : X) → p x ≡ true → (i : ℕ) → i < length xs → HoldsAt (λ y. y ≡ x) xs i → AllWithin (λ x. p x ≡ false) xs 0 i → Some (said x) ≡ first xs
  hit_at [] x s i l e w = absurd (omega (arith, l))
  hit_at (y ∷ ys) x s zero l e w = let it : y ≡ x = e x in ap (λ z. Some (said z)) (sym it) ∙ sym (hit y ys (ap p it ∙ s))
  hit_at (y ∷ ys) x s (suc i) l e w =
      hit_at ys x s i (omega (arith, l)) e (λ k d a b. w (suc k) d (omega arith) (omega (arith, b))) ∙ sym (miss y ys (w 0 x (omega arith) (omega arith)))

  pub find_says : {S A F : Type 0} {steps : S → Option A → S → Type 0} {v : A → X} {g : Mut F (Bor A × Unit {0}) Bool} {s : S} (items : List X) (u : S) (f : F) (r : Option A)
      → (xs : List A) × (j : F) × YieldsThen steps s xs r u × FoldsTo (λ p x q. CalledAt g p x false q) f xs j × MatchOption r (Unit {0}) (λ x. (h : F) × CalledAt g j x true h)
      → YieldsList steps v s items
      → ((x : A) (q : F) → CalledAt g f x true q → p (v x) ≡ true)
      → ((x : A) (q : F) → CalledAt g f x false q → (q ≡ f) × (p (v x) ≡ false))
      → option_map (λ x. said (v x)) r ≡ first items
  find_says {v = v} items u f r ran yields pass fail = go v r (first_from_find u f r (λ x. p x ≡ true) (λ x. p x ≡ false) ran yields pass fail)
    where
      go : {A : Type 0} (v : A → X) (r : Option A)
          → MatchOption r (AllWithin (λ x. p x ≡ false) items 0 (length items)) (λ x. (p (v x) ≡ true) × (i : ℕ) × (i < length items) × HoldsAt (λ y. y ≡ v x) items i × AllWithin (λ x. p x ≡ false) items 0 i)
          → option_map (λ x. said (v x)) r ≡ first items
      go v None h = no_hit items h
      go v (Some x) h = hit_at items (v x) h.0 h.1 h.2 h.3 h.4
