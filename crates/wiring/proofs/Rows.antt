-- Rows of choices, as they are pushed and popped.
use Rattle.std.proofs.Common.{◌≡◌, ℕ, suc, zero, ◌+◌, ◌-◌, ◌<◌, cond, eqb, ◌↔◌, List, [], ◌∷◌, ◌++◌, length, get_or, set, Some, None, Option, refl, arith, slice_get, ap, ◌∙◌, sym, IsSome, IfNone, Result, Ok, Err, IsOk, OnOk, OnErr, IfErr, ⊎_elim}
use Rattle.std.specs.Option.{option_to_list}
use Rattle.std.proofs.lemmas.Bool.{cases_eq, cases_lt}
use Rattle.std.proofs.lemmas.Bool.Decides.{nat_tests}
use Rattle.std.proofs.lemmas.List.{get_or-set_same, get_or-set_other, get_or_default, get_or_past, set-get_or}
use Rattle.std.proofs.lemmas.Grind.{common_steps}
use Rattle.arrayvec.specs.ArrayVec.{ArrayVec}
use Rattle.wiring.specs.declared.choice.Choice.{Choice}
use Rattle.wiring.specs.declared.partial.PartialWiring.{PartialWiring}
use Rattle.wiring.specs.declared.refusal.DecideRefusal.{DecideRefusal}
use Rattle.wiring.specs.declared.refusal.DecideRefusal.TheVariants.{AllDecided}
use Rattle.wiring.specs.Counted.{choices_of, count_of, table_of}
use Rattle.wiring.specs.Steps.{Counts, Decide, Writes, Retract}

-- a list with one more item
pushed : (xs : List Choice) (x : Choice) (k : ℕ) → slice_get (xs ++ x ∷ []) k ≡ cond (eqb k (length xs)) (Some x) (slice_get xs k)
pushed [] x zero = refl
pushed [] x (suc k) = grind (arith, nat_tests)
pushed (y ∷ ys) x zero = grind (arith, nat_tests)
pushed (y ∷ ys) x (suc k) = grind (arith, nat_tests, pushed ys x k)

popped : (xs : List Choice) (x : Choice) (k : ℕ) → slice_get xs k ≡ cond (eqb k (length xs)) None (slice_get (xs ++ x ∷ []) k)
popped [] x zero = refl
popped [] x (suc k) = grind (arith, nat_tests)
popped (y ∷ ys) x zero = grind (arith, nat_tests)
popped (y ∷ ys) x (suc k) = grind (arith, nat_tests, popped ys x k)

-- w' has the choices of w, and one more at the place
module _ (w w' : PartialWiring) (place : ℕ) (choice : Choice) (apart : (b : ℕ) → (b ≡ place → ⊥) → choices_of w'.rows b ≡ choices_of w.rows b)
    (here : choices_of w'.rows place ≡ choices_of w.rows place ++ choice ∷ []) where
  push-writes : Writes (table_of w) place (count_of w place) (Some choice) (table_of w')
  push-writes b k = grind (arith, nat_tests, cases_eq b place, pushed, apart)

  push-counts : Counts w place (count_of w place + 1) w'
  push-counts b = grind (arith, common_steps, nat_tests, cases_eq b place, apart)

  pop-writes : Writes (table_of w') place (count_of w place) None (table_of w)
  pop-writes b k = grind (arith, nat_tests, cases_eq b place, popped, apart)

  pop-counts : Counts w' place (count_of w place) w
  pop-counts b = grind (arith, common_steps, nat_tests, cases_eq b place, apart)

  pop-last : table_of w' place (count_of w place) ≡ Some choice
  pop-last = grind (arith, nat_tests, pushed)

-- a row of a place is put in the place of the row that is there
module _ (w : PartialWiring) (place : ℕ) (row : ArrayVec Choice) (lt : place < length w.rows) where
  abbrev there : PartialWiring
  there = record { rows = set w.rows place row }

  apart : (b : ℕ) → (b ≡ place → ⊥) → choices_of there.rows b ≡ choices_of w.rows b
  apart b ne = grind (arith, get_or-set_other)

  here : choices_of there.rows place ≡ row.items
  here = grind (arith, get_or-set_same)

  before : (d : ArrayVec Choice) → choices_of w.rows place ≡ (get_or w.rows place d).items
  before d = ap (λ r. r.items) (get_or_default w.rows place _ d lt)

  kept : (d : ArrayVec Choice) → row ≡ get_or w.rows place d → there ≡ w
  kept d same = ap (λ rows. record { rows = rows }) (ap (set w.rows place) same ∙ set-get_or w.rows place d)

  pub decides : (choice : Choice) (d : ArrayVec Choice) {U : Type 0} (r : Result U DecideRefusal) → length w.rows ≡ 64 →
      (IsOk r ↔ (length (get_or w.rows place d).items < 16)) → OnOk r (row.items ≡ (get_or w.rows place d).items ++ choice ∷ []) → OnErr r (row ≡ get_or w.rows place d) →
      IfErr r (λ e. e ≡ AllDecided) → Decide w place choice there r
  decides choice d (Ok u) whole fits push same why =
      let next : choices_of there.rows place ≡ choices_of w.rows place ++ choice ∷ [] = here ∙ push ∙ ap (λ xs. xs ++ choice ∷ []) (sym (before d)) in
      (omega arith, grind (arith, before d, fits.0), push-counts w there place choice apart next, push-writes w there place choice apart next)
  decides choice d (Err e) whole fits push same why =
      (rw why (omega arith, grind (arith, before d, fits.1)), kept d same)

  pub retracts : (d : ArrayVec Choice) (r : Option Choice) → (get_or w.rows place d).items ≡ row.items ++ option_to_list r →
      (IsSome r ↔ (0 < length (get_or w.rows place d).items)) → IfNone r (row ≡ get_or w.rows place d) → Retract w place there r
  retracts d None items some same = (grind (arith, before d, some.1), kept d same)
  retracts d (Some choice) items some same =
      let last : choices_of w.rows place ≡ choices_of there.rows place ++ choice ∷ [] = before d ∙ items ∙ ap (λ xs. xs ++ choice ∷ []) (sym here) in
      let more : count_of w place ≡ count_of there place + 1 = grind (arith, common_steps, last) in
      let n : count_of w place - 1 ≡ count_of there place = omega arith in
      let back = λ (b : ℕ) (ne : b ≡ place → ⊥). sym (apart b ne) in
      rw n (omega arith, pop-last there w place choice back last, pop-counts there w place choice back last, pop-writes there w place choice back last)

-- where every row is empty, every need is open
pub empty_open : (rows : List (ArrayVec Choice)) (n : ℕ) → length rows ≡ n → ((b : ℕ) → b < n → choices_of rows b ≡ []) → (b k : ℕ) → slice_get (choices_of rows b) k ≡ None
empty_open rows n long empty b k =
    let none : choices_of rows b ≡ [] = ⊎_elim (empty b) (λ le. ap (λ r. r.items) (get_or_past rows b _ (omega arith))) (cases_lt b n) in
    rw none
