-- What the program's values stand for.
use Rattle.std.specs.Prelude.{ℕ, ◌+◌, ◌-◌, ◌^◌, Ok, Err, Result, min}
use Rattle.query.specs.declared.answer.Answer.{Answer}
use Rattle.query.specs.declared.answer.Part.{Part}
use Rattle.query.specs.declared.answer.Question.{Question}
use Rattle.query.specs.declared.answer.Verdict.{Verdict}
use Rattle.query.specs.declared.answer.Verdict.TheVariants.{Holds, LeavesOut}
use Rattle.query.specs.declared.tally.Tally.{Tally}
use Rattle.query.specs.Answers.{Said, holds, leaves_out, unread}

abbrev pub told : Question → Verdict → Said
told q Holds = holds q.range.now q.value.now
told q LeavesOut = leaves_out q.range.now q.value.now

abbrev pub said : Result Answer Part → Said
said (Ok a) = told a.question a.verdict
said (Err p) = unread p

-- one more, up to the largest number of 64 bits
abbrev pub more : ℕ → ℕ
more n = min (n + 1) (2 ^ 64 - 1)

-- each answer is counted once, by what it says
abbrev pub counted : Said → Tally → Tally
counted (holds r v) t = record { held = more t.held; left_out = t.left_out; unread = t.unread }
counted (leaves_out r v) t = record { held = t.held; left_out = more t.left_out; unread = t.unread }
counted (unread p) t = record { held = t.held; left_out = t.left_out; unread = more t.unread }
