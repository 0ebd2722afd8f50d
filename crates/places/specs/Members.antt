-- The bits of a number as a set of places.
use Rattle.std.specs.Prelude.{ℕ, ◌/◌, ◌%◌, ◌^◌, Bool, ◌&&◌, ◌==◌, nat_lt}

-- bit p of n
abbrev pub member : ℕ → ℕ → Bool
member n p = n / 2 ^ p % 2 == 1

-- the set of that place alone, empty where there is no such place
abbrev pub only : ℕ → ℕ → Bool
only place p = p == place && nat_lt place 64
