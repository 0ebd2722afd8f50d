-- A table of unwired cells.
use Rattle.std.proofs.Common.{◌≡◌, ℕ, ◌<◌, ◌⊎◌, List, [], length, get_or, replicate, arith}
use Rattle.std.proofs.lemmas.List.{get_or_past, get_or-replicate, length-replicate}
use Rattle.std.proofs.lemmas.Bool.{cases_lt}
use Rattle.wiring.specs.declared.choice.Choice.{Choice}
use Rattle.wiring.specs.declared.choice.Choice.TheVariants.{Unwired}
use Rattle.wiring.specs.Cells.{choice_in}

-- what is read of equal items is such an item, or past them the default
any-replicate : {X : Type 0} (n : ℕ) (x d : X) (i : ℕ) → (get_or (replicate n x) i d ≡ x) ⊎ (get_or (replicate n x) i d ≡ d)
any-replicate {X} n x d i = grind (arith, get_or-replicate, get_or_past, length-replicate {A = X}, cases_lt i n)

pub fresh : (x : Choice) (n m b k : ℕ) → x ≡ Unwired → choice_in (replicate n (replicate m x)) b k ≡ Unwired
fresh x n m b k unwired = grind (arith, any-replicate n (replicate m x) [] b, any-replicate m x Unwired k)

pub fresh-full : (x : Choice) (n m k : ℕ) (d : List Choice) → k < n → length (get_or (replicate n (replicate m x)) k d) ≡ m
fresh-full x n m k d lt = grind (arith, get_or-replicate, length-replicate {A = Choice})
