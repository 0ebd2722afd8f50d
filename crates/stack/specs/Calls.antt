-- What pushing and popping do.
use Rattle.std.specs.Prelude.{◌≡◌, ◌+◌, ◌<◌, ◌≤◌, [], ◌∷◌, ◌++◌, length, Option, Result, slice_set}
use Rattle.std.specs.Option as options
use Rattle.std.specs.Result as results
use Rattle.stack.specs.declared.lent.Stack.{Stack}
use Rattle.stack.specs.declared.refusal.PushRefusal.{PushRefusal}
use Rattle.stack.specs.Held.{held, cells_of, room}

-- where a cell is left the record is on top and in that cell; a full stack is as it was
abbrev pub Pushed : {T U : Type 0} → Stack T → T → Stack T → Result U PushRefusal → Type 0
Pushed s x t r =
    results.MatchResult r
    (λ _. (length (held s) < room s) × (held t ≡ held s ++ x ∷ []) × (cells_of t ≡ slice_set (cells_of s) (length (held s)) x))
    (λ _. (room s ≤ length (held s)) × (held t ≡ held s) × (cells_of t ≡ cells_of s))

-- the top record is taken off; where there is none, nothing is
abbrev pub Popped : {T : Type 0} → Stack T → Stack T → Option T → Type 0
Popped s t r =
    options.MatchOption r
    ((held s ≡ []) × (held t ≡ []))
    (λ x. (held s ≡ held t ++ x ∷ []) × (length (held s) ≡ length (held t) + 1))
