-- A header that is given at most once.
use Rattle.std.specs.Prelude.{◌≡◌, Some, None, Ok, Err, Option, Result}
use Rattle.manifest.specs.declared.question.Question.{Question}
use Rattle.manifest.specs.declared.question.Question.TheVariants.{HeaderTwice}

-- what reading gave was kept, where nothing was kept before
abbrev pub Taken : {X : Type 0} → (Result X Question → Type 0) → Option X → Option X → Result (Unit {0}) Question → Type 0
Taken reads (Some x) new result = (new ≡ Some x) × (result ≡ Err HeaderTwice)
Taken reads None (Some x) result = reads (Ok x) × (result ≡ Ok tt)
Taken reads None None (Err e) = reads (Err e)
Taken reads None None (Ok u) = ⊥
