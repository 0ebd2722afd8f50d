-- The clauses of a value: gathered one by one, and judged as a whole.
use Rattle.std.proofs.Common.{◌≡◌, ℕ, ◌+◌, ◌<◌, ◌≤◌, Bool, true, false, not, cond, ◌&&◌, leb, List, ◌++◌, map, length, Some, None, Ok, Err, Option, Result, sym, refl, ap, ◌∙◌, arith}
use Rattle.std.proofs.lemmas.Bool.{le-leb, lt-leb, and_parts}
use Rattle.std.proofs.lemmas.Bool.Decides.{nat_tests}
use Rattle.shelf.specs.Meaning.{Name}
use Rattle.manifest.specs.declared.header.Grammar.{Grammar}
use Rattle.manifest.specs.Clauses.{RawClause, clause, each, form}
use Rattle.manifest.specs.Names.{all, none_twice}
use Rattle.manifest.specs.Questions.{asks, gets}
use Rattle.manifest.specs.Stages.{few, clauses_kept, kept}
use Rattle.manifest.specs.Values.{clauses_in}

-- what is answered where some were read before, by whether one of those did not read, and one broke a limit
abbrev pub gathers : {X : Type 0} → ℕ → (X → Bool) → Grammar → (RawClause → Option X) → Bool → Bool → List X → List (List ℕ) → Result (List X) ℕ
gathers n small g reads unread over before pieces =
    gets 7 (each (clause g) pieces) (λ cs.
    gets 8 (cond unread None (each reads cs)) (λ xs.
    asks 9 (not over && few n small (length before) xs) (Ok (before ++ xs))))

module _ {X : Type 0} (n : ℕ) (g : Grammar) (reads : RawClause → Option X) (small : X → Bool) (name : X → Name) (others : ℕ) (value : List ℕ) where
  -- the questions 8 to 10 of a value that follows the form
  abbrev judged : Option (List X) → Result (List X) ℕ
  judged e = gets 8 e (λ xs. asks 9 (few n small others xs) (asks 10 (none_twice (map name xs)) (Ok xs)))

  -- what alone is too much is too much beside others
  pub refused : (q : ℕ) → Err q ≡ clauses_kept n small reads (form g value) → Err q ≡ clauses_in g reads (few n small others) name value
  refused q = whole (form g value)
    where
      more : (xs : List X) → few n small 0 xs ≡ false → few n small others xs ≡ false
      more xs h = grind (arith, nat_tests)

      go : (o : Option (List X)) → Err q ≡ kept (few n small 0) o → Err q ≡ judged o
      go None e = e
      go (Some xs) e = by (few n small 0 xs) refl e
        where
          by : (b : Bool) → few n small 0 xs ≡ b → Err q ≡ asks 9 b (Ok xs) → Err q ≡ judged (Some xs)
          by true h e = let z : ◌≡◌ {A = Result (List X) ℕ} (Err q) (Ok xs) = e in absurd (let no : ◌≡◌ {A = ℕ} 0 1 = cc in omega arith)
          by false h e = e ∙ sym (ap (λ b. asks 9 b (asks 10 (none_twice (map name xs)) (Ok xs))) (more xs h))

      whole : (o : Option (List RawClause)) → Err q ≡ clauses_kept n small reads o → Err q ≡ gets 7 o (λ cs. judged (each reads cs))
      whole None e = e
      whole (Some cs) e = go (each reads cs) e

  module _ (xs : List X) (e : Ok xs ≡ clauses_kept n small reads (form g value)) where
    kept_few : (o : Option (List X)) → Ok xs ≡ kept (few n small 0) o → (o ≡ Some xs) × (few n small 0 xs ≡ true)
    kept_few None e = let z : ◌≡◌ {A = Result (List X) ℕ} (Ok xs) (Err 8) = e in absurd (let no : ◌≡◌ {A = ℕ} 0 1 = cc in omega arith)
    kept_few (Some ys) e = by (few n small 0 ys) refl e
      where
        by : (b : Bool) → few n small 0 ys ≡ b → Ok xs ≡ asks 9 b (Ok ys) → (◌≡◌ {A = Option (List X)} (Some ys) (Some xs)) × (few n small 0 xs ≡ true)
        by true h k = let is : ys ≡ xs = cc in (ap Some is, ap (few n small 0) (sym is) ∙ h)
        by false h k = let z : ◌≡◌ {A = Result (List X) ℕ} (Ok xs) (Err 9) = k in absurd (let no : ◌≡◌ {A = ℕ} 0 1 = cc in omega arith)

    -- all clauses follow the form and read, and are few enough by themselves
    all_kept : (o : Option (List RawClause)) → Ok xs ≡ clauses_kept n small reads o → (gets 7 o (λ cs. judged (each reads cs)) ≡ judged (Some xs)) × (few n small 0 xs ≡ true)
    all_kept None e = let z : ◌≡◌ {A = Result (List X) ℕ} (Ok xs) (Err 7) = e in absurd (let no : ◌≡◌ {A = ℕ} 0 1 = cc in omega arith)
    all_kept (Some cs) e = (ap judged (kept_few (each reads cs) e).0, (kept_few (each reads cs) e).1)

    judge : (b : Bool) → few n small others xs ≡ b → asks 9 b (asks 10 (none_twice (map name xs)) (Ok xs)) ≡ clauses_in g reads (few n small others) name value
    judge b h = ap (λ b. asks 9 b (asks 10 (none_twice (map name xs)) (Ok xs))) (sym h) ∙ sym (all_kept (form g value) e).0

    pub crowded : n < others + length xs → Err 9 ≡ clauses_in g reads (few n small others) name value
    crowded h = judge false (let no : leb (others + length xs) n ≡ false = lt-leb _ _ h in grind arith)

    module _ (room : others + length xs ≤ n) where
      named : asks 10 (none_twice (map name xs)) (Ok xs) ≡ clauses_in g reads (few n small others) name value
      named = judge true (let enough : leb (others + length xs) n ≡ true = le-leb _ _ room in let both = and_parts (leb (0 + length xs) n) (all small xs) (all_kept (form g value) e).1 in grind arith)

      pub twice : true ≡ not (none_twice (map name xs)) → Err 10 ≡ clauses_in g reads (few n small others) name value
      twice h = by (none_twice (map name xs)) h ∙ named
        where
          by : (b : Bool) → true ≡ not b → Err 10 ≡ asks 10 b (Ok xs)
          by true h = let z : ◌≡◌ {A = Bool} true false = h in absurd (let no : ◌≡◌ {A = ℕ} 0 1 = cc in omega arith)
          by false h = refl

      pub once : false ≡ not (none_twice (map name xs)) → Ok xs ≡ clauses_in g reads (few n small others) name value
      once h = by (none_twice (map name xs)) h ∙ named
        where
          by : (b : Bool) → false ≡ not b → Ok xs ≡ asks 10 b (Ok xs)
          by true h = refl
          by false h = let z : ◌≡◌ {A = Bool} false true = h in absurd (let no : ◌≡◌ {A = ℕ} 0 1 = cc in omega arith)
