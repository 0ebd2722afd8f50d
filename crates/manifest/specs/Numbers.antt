-- The numbers of the questions, and what a refusal says.
use Rattle.std.specs.Prelude.{ℕ, Some, None, Ok, Err, Option, Result}
use Rattle.manifest.specs.declared.question.Question.{Question}
use Rattle.manifest.specs.declared.question.Question.TheVariants.{TextTooLong, StrayByte, NotClosed, NotAHeader, HeaderTwice, Malformed, Unreadable, OverLimit, NameTwice, NoSymbolicName, TooManyBundles, BundleTwice}
use Rattle.manifest.specs.declared.refusal.Refusal.{Refusal}
use Rattle.manifest.specs.Questions.{FirstNo}

abbrev pub number_of : Question → ℕ
number_of TextTooLong = 1
number_of StrayByte = 2
number_of NotClosed = 3
number_of NotAHeader = 5
number_of HeaderTwice = 6
number_of Malformed = 7
number_of Unreadable = 8
number_of OverLimit = 9
number_of NameTwice = 10
number_of NoSymbolicName = 11
number_of TooManyBundles = 12
number_of BundleTwice = 13

abbrev pub first_no : Refusal → FirstNo
first_no r = record { question = number_of r.question; offset = r.offset }

-- the first question that was answered no, if any was
abbrev pub no_in : {X : Type 0} → Result X FirstNo → Option FirstNo
no_in (Ok x) = None
no_in (Err e) = Some e
