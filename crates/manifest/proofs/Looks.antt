-- What `any` answers, where the test of a list asks one element after the other.
use Rattle.std.proofs.Common.{◌≡◌, ℕ, ◌<◌, Bool, true, false, ◌||◌, List, [], ◌∷◌, length, Option, sym, arith}
use Rattle.std.proofs.lemmas.Iterator.{YieldsList, cases_from_any}
use Rattle.std.proofs.lemmas.List.Recursion.{or_is}
use Rattle.std.specs.Bool.{MatchBool}
use Rattle.std.specs.Iterator.{YieldsThen}
use Rattle.std.specs.List.{AllWithin, FoldsTo, HoldsAt}
use Rattle.std.specs.Option.{MatchOption}
use denote.Param.Members.{Called, Mut}

module _ {X : Type 0} (test : List X → Bool) (p : X → Bool) (none : test [] ≡ false) (more : (x : X) (xs : List X) → test (x ∷ xs) ≡ (p x || test xs)) where
  any_of : (xs : List X) (r : Bool)
      → MatchBool r ((k : ℕ) × (k < length xs) × HoldsAt (λ x. p x ≡ true) xs k) (AllWithin (λ x. p x ≡ false) xs 0 (length xs))
      → r ≡ test xs
  any_of [] true h = absurd (omega (arith, h.1))
  any_of [] false h = sym none
  any_of (x ∷ xs) true h = or_is test p none more (x ∷ xs) x true (λ e. (h.0, h.1, h.2 x)) (λ e. let z : ◌≡◌ {A = Bool} true false = e in cc)
  any_of (x ∷ xs) false h = or_is test p none more (x ∷ xs) x false (λ e. let z : ◌≡◌ {A = Bool} false true = e in cc) (λ e i l. h i x (omega arith) l)

  pub any_says : {S A F : Type 0} {steps : S → Option A → S → Type 0} {v : A → X} {g : Mut F (A × Unit {0}) Bool} {s : S} (items : List X) (u : S) (f : F) (r : Bool)
      → (xs : List A) × (o : Option A) × (j : F) × YieldsThen steps s xs o u × FoldsTo (λ p x q. Called g p (x, tt) false q) f xs j × MatchOption o (r ≡ false) (λ x. (r ≡ true) × ((h : F) × Called g j (x, tt) true h))
      → YieldsList steps v s items
      → ((x : A) (q : F) → Called g f (x, tt) true q → p (v x) ≡ true)
      → ((x : A) (q : F) → Called g f (x, tt) false q → (q ≡ f) × (p (v x) ≡ false))
      → r ≡ test items
  any_says items u f r ran yields pass fail = any_of items r (cases_from_any u f r (λ x. p x ≡ true) (λ x. p x ≡ false) ran yields pass fail)
