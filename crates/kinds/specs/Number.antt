-- What a text reads as, as a number of 16 bits.
use Rattle.std.specs.Prelude.{ℕ, ◌+◌, ◌-◌, ◌*◌, cond, ◌&&◌, List, length, Some, None, fold, Option, nat_lt}
use Rattle.text.specs.Bytes.{digit, every}

-- the value of a text of digits
abbrev pub decimal : List ℕ → ℕ
decimal text = fold (λ n b. n * 10 + (b - 48)) 0 text

-- one digit or more, nothing else, and no more than 65,535
abbrev pub number : List ℕ → Option ℕ
number text = cond (nat_lt 0 (length text) && every digit text && nat_lt (decimal text) 65536) (Some (decimal text)) None
