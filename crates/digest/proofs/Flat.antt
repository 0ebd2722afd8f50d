-- What `flatten` gives of a list of options: the items that are there.
use Rattle.std.proofs.Common.{◌≡◌, ℕ, zero, suc, Bool, true, false, cond, List, [], ◌∷◌, length, Some, None, Option, Bor, sym, refl, ap, ◌∙◌, subst}
use Rattle.std.specs.Bool.{MatchBool}
use Rattle.std.specs.Iterator.Adapters.{option_iter_item, option_iter_done, option_iter_steps}
use Rattle.std.specs.List.{flat_map, slice_get}
use Rattle.std.specs.Option.{option_to_list}
use Rattle.std.proofs.lemmas.Iterator.{YieldsList}
use Rattle.std.proofs.lemmas.Iterator.Consumers.{YieldsList-from_shown}

abbrev pub present : {A : Type 0} → List (Option A) → List A
present xs = flat_map option_to_list xs

module _ {A : Type 0} where
  nothing_left : (done : Bool) (o : Option A) → MatchBool done (◌≡◌ {A = Option (Bor A)} None None) (None ≡ o) → length (cond done [] (option_to_list o)) ≡ 0
  nothing_left true o h = refl
  nothing_left false o h = ap (λ k. length (option_to_list k)) (sym h)

  one_left : (done : Bool) (o : Option A) (x : Bor A) → MatchBool done (Some x ≡ None) (Some x.now ≡ o) → cond done [] (option_to_list o) ≡ x.now ∷ []
  one_left true o x h = absurd (cc)
  one_left false o x h = ap option_to_list (sym h)

  -- one option's iterator
  pub yields_option : (x : Option A) (j : _) → option_iter_item j ≡ x → option_iter_done j ≡ false → YieldsList (option_iter_steps {A = A}) (λ y. y.now) j (option_to_list x)
  yields_option x j item done =
      let all = YieldsList-from_shown (option_iter_steps {A = A}) (λ y. y.now) (λ u. cond (option_iter_done u) [] (option_to_list (option_iter_item u)))
      (λ s t h. nothing_left (option_iter_done s) (option_iter_item s) h.1)
      (λ s y t h. one_left (option_iter_done s) (option_iter_item s) y h.1 ∙ ap (λ b. y.now ∷ cond b [] (option_to_list (option_iter_item t))) (sym h.0)) j in
      subst (λ (ys : List A). YieldsList (option_iter_steps {A = A}) (λ y. y.now) j ys) (ap (λ b. cond b [] (option_to_list (option_iter_item j))) done ∙ ap option_to_list item) all

  pub got_present : (xs : List (Option A)) (j : ℕ) (x : A) → slice_get xs j ≡ Some (Some x) → (k : ℕ) × (slice_get (present xs) k ≡ Some x)
  got_present [] j x e = absurd (cc)
  got_present (None ∷ xs) zero x e = absurd (cc)
  got_present (Some y ∷ xs) zero x e = (0, cc)
  got_present (None ∷ xs) (suc j) x e = got_present xs j x e
  got_present (Some y ∷ xs) (suc j) x e = let (k, at) = got_present xs j x e in (suc k, at)

  pub present_got : (xs : List (Option A)) (k : ℕ) (x : A) → slice_get (present xs) k ≡ Some x → (j : ℕ) × (slice_get xs j ≡ Some (Some x))
  present_got [] k x e = absurd (cc)
  present_got (None ∷ xs) k x e = let (j, at) = present_got xs k x e in (suc j, at)
  present_got (Some y ∷ xs) zero x e = (0, cc)
  present_got (Some y ∷ xs) (suc k) x e = let (j, at) = present_got xs k x e in (suc j, at)
