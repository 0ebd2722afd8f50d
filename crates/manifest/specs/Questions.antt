-- Questions asked one after the other: the first no is the answer, by its number.
use Rattle.std.specs.Prelude.{ℕ, Bool, true, false, Some, None, Err, Option, Result}

-- question n is answered by a test, and then the rest
abbrev pub asks : {X : Type 0} → ℕ → Bool → Result X ℕ → Result X ℕ
asks n true rest = rest
asks n false rest = Err n

-- question n is answered by what there is, and then the rest about that
abbrev pub gets : {X Y : Type 0} → ℕ → Option X → (X → Result Y ℕ) → Result Y ℕ
gets n None rest = Err n
gets n (Some x) rest = rest x

-- the first question that is answered no, and the offset of its line
pub record FirstNo : Type 0 where
  pub question : ℕ
  pub offset : ℕ
