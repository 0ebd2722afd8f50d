-- Reading digit by digit, with the number so far, is the number that the text means.
use Rattle.std.proofs.Common.{◌≡◌, ℕ, ◌+◌, ◌-◌, ◌*◌, ◌<◌, ◌≤◌, true, cond, ◌&&◌, ltb, List, [], ◌∷◌, length, get_or, drop, Some, None, fold, Option, arith}
use Rattle.std.proofs.lemmas.Grind.{common_steps}
use Rattle.std.proofs.lemmas.Bool.Decides.{nat_tests}
use Rattle.std.proofs.lemmas.List.{at_drop_more}
use Rattle.text.specs.Bytes.{digit, every}
use Rattle.kinds.specs.Number.{number}

abbrev pub step : ℕ → ℕ → ℕ
step n b = n * 10 + (b - 48)

-- what is left of a text, after a front that was worth n
abbrev pub onward : ℕ → List ℕ → Option ℕ
onward n text = cond (every digit text && ltb (fold step n text) 65536) (Some (fold step n text)) None

grows : (n : ℕ) (text : List ℕ) → n ≤ fold step n text
grows n [] = omega arith
grows n (b ∷ bs) = omega (arith, grows (step n b) bs)

over : (n : ℕ) (text : List ℕ) → 65536 ≤ n → onward n text ≡ None
over n text h = grind (arith, nat_tests, grows n)

-- At the byte i, with the front worth n: a digit makes the number too large, or there is no byte left.
module _ (text : List ℕ) (i n : ℕ) (so_far : number text ≡ onward n (drop i text)) where
  pub passes : i < length text → 48 ≤ get_or text i 0 → get_or text i 0 ≤ 57 → 65536 ≤ step n (get_or text i 0) → None ≡ number text
  passes h low high big =
      let e : digit (get_or text i 0) ≡ true = grind (arith, nat_tests) in
      let m = at_drop_more (onward n) text i 0 h in
      grind (arith, nat_tests, grows)

  pub ends : length text ≤ i → n < 65536 → Some n ≡ number text
  ends h small = grind (arith, nat_tests, common_steps)
