-- What a stack holds, the oldest record first, and over which cells.
use Rattle.std.specs.Prelude.{ℕ, ◌-◌, List, length, take, Option}
use Rattle.std.specs.List.{slice_get}
use Rattle.stack.specs.declared.lent.Stack.{Stack}

abbrev pub cells_of : {T : Type 0} → Stack T → List T
cells_of s = s.cells.now

abbrev pub held : {T : Type 0} → Stack T → List T
held s = take s.len (cells_of s)

-- how many records there are cells for
abbrev pub room : {T : Type 0} → Stack T → ℕ
room s = length (cells_of s)

-- the last item, if there is one
abbrev pub top_of : {T : Type 0} → List T → Option T
top_of xs = slice_get xs (length xs - 1)
