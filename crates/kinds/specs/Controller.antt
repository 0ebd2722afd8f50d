-- Controller numbers: which of two is the lower, and what a text reads as.
use Rattle.std.specs.Prelude.{ℕ, Bool, List, Option, nat_lt}
use Rattle.std.specs.Option.{option_map}
use Rattle.kinds.specs.declared.controller.ControllerNumber.{ControllerNumber}
use Rattle.kinds.specs.Number.{number}

abbrev pub numbered : ℕ → ControllerNumber
numbered n = record { 0 = n }

-- the order of numbers
abbrev pub before : ControllerNumber → ControllerNumber → Bool
before x y = nat_lt x.0 y.0

-- 0 to 65,535 in digits
abbrev pub controller : List ℕ → Option ControllerNumber
controller text = option_map numbered (number text)
