-- What `all` answers, where the test of a list asks one element after the other.
use Rattle.std.proofs.Common.{◌≡◌, ℕ, ◌<◌, Bool, true, false, ◌&&◌, List, [], ◌∷◌, length, Option, arith}
use Rattle.std.proofs.lemmas.Iterator.{YieldsList, cases_from_all}
use Rattle.std.proofs.lemmas.List.Recursion.{and_is}
use Rattle.std.specs.Bool.{MatchBool}
use Rattle.std.specs.Iterator.{YieldsThen}
use Rattle.std.specs.List.{AllWithin, FoldsTo, HoldsAt}
use Rattle.std.specs.Option.{MatchOption}
use denote.Param.Members.{Called, Mut}

module _ {X : Type 0} (test : List X → Bool) (p : X → Bool) (none : test [] ≡ true) (more : (x : X) (xs : List X) → test (x ∷ xs) ≡ (p x && test xs)) where
  all_of : (xs : List X) (d : X) (r : Bool)
      → MatchBool r (AllWithin (λ x. p x ≡ true) xs 0 (length xs)) ((k : ℕ) × (k < length xs) × HoldsAt (λ x. p x ≡ false) xs k)
      → r ≡ test xs
  all_of xs d true h = and_is test p none more xs d true (λ e i l. h i d (omega arith) l) (λ e. let z : ◌≡◌ {A = Bool} true false = e in absurd (let no : ◌≡◌ {A = ℕ} 0 1 = cc in omega arith))
  all_of xs d false h = and_is test p none more xs d false (λ e. let z : ◌≡◌ {A = Bool} false true = e in absurd (let no : ◌≡◌ {A = ℕ} 0 1 = cc in omega arith)) (λ e. (h.0, h.1, h.2 d))

  pub all-says : {S A F : Type 0} {steps : S → Option A → S → Type 0} {v : A → X} {g : Mut F (A × Unit {0}) Bool} {s : S} {items : List X} (u : S) (f : F) (d : X) (r : Bool)
      → (xs : List A) × (o : Option A) × (j : F) × YieldsThen steps s xs o u × FoldsTo (λ p x q. Called g p (x, tt) true q) f xs j × MatchOption o (r ≡ true) (λ x. (r ≡ false) × ((h : F) × Called g j (x, tt) false h))
      → YieldsList steps v s items
      → ((x : A) (q : F) → Called g f (x, tt) true q → (q ≡ f) × (p (v x) ≡ true))
      → ((x : A) (q : F) → Called g f (x, tt) false q → p (v x) ≡ false)
      → r ≡ test items
  all-says {items = items} u f d r ran yields pass fail = all_of items d r (cases_from_all u f r (λ x. p x ≡ true) (λ x. p x ≡ false) ran yields pass fail)
