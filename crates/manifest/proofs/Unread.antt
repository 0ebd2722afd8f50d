-- An export whose version does not read, or whose name is too long, is refused for that.
use Rattle.std.proofs.Common.{◌≡◌, ℕ, Bool, true, false, ◌&&◌, Some, None, Ok, Err, Option, Result, ap, sym, ◌∙◌, subst}
use Rattle.std.specs.Option.{option_map}
use Rattle.std.specs.Result.{result_map_both}
use Rattle.manifest.specs.Questions.{asks, gets}

abbrev IsErr : {X : Type 0} → Result X ℕ → Type 0
IsErr (Ok x) = ⊥
IsErr (Err n) = Unit {0}

pub unread : {X Y : Type 0} (made : X → Y) (small : Y → Bool) (rest : X → Bool) (o : Option X) (short : Bool) (n : ℕ)
    → ((x : X) → small (made x) ≡ (short && rest x))
    → Err n ≡ gets 8 o (λ x. asks 9 short (Ok x))
    → Err n ≡ gets 8 (option_map made o) (λ y. asks 9 (small y) (Ok y))
unread made small rest None short n agree e = ap (λ r. result_map_both made (λ k. k) r) e
unread made small rest (Some x) true n agree e = let no : ⊥ = subst IsErr e tt in elim no [ ]
unread made small rest (Some x) false n agree e = ap (λ r. result_map_both made (λ k. k) r) e ∙ sym (ap (λ b. asks 9 b (Ok (made x))) (agree x))
