-- What the steps of `show` say of each other. (This project's rules.)
use Rattle.std.specs.Prelude.{◌≡◌, ℕ, List, Result, Ok, Err}
use Rattle.jeldroft_files.specs.believed.Failures.{status_of}
use Rattle.jeldroft_files.specs.declared.failure.Cause.{Cause}
use Rattle.jeldroft_files.specs.declared.failure.Failure.{Failure}
use Rattle.jeldroft_inputs.specs.Inputs.{EndsBy}
use Rattle.jeldroft_show.specs.believed.Shows.{Shown, status_with}
use Rattle.jeldroft_show.specs.declared.answer.Answer.{Answer}

-- an answer as it is shown
abbrev pub shown_by : Answer → Shown
shown_by answer = record { text = answer.text.items; accepted = answer.accepted }

-- a step gives what is due, or ends by its cause, unless memory or a device failed
abbrev pub Gives : Result Shown Cause → Result Answer Failure → Type 0
Gives due (Ok answer) = due ≡ Ok (shown_by answer)
Gives due (Err failure) = EndsBy (λ cause. due ≡ Err cause) failure.cause

-- the answer is what is called for, or memory or a device failed
abbrev pub IsCalledFor : (Result Shown Cause → Type 0) → Result Answer Failure → Type 0
IsCalledFor Due (Ok answer) = Due (Ok (shown_by answer))
IsCalledFor Due (Err failure) = EndsBy (λ cause. Due (Err cause)) failure.cause

-- an answer as its text, or the status of the cause for which there is none
abbrev pub answer_seen : Result Answer Failure → Result (List ℕ) ℕ
answer_seen (Ok answer) = Ok answer.text.items
answer_seen (Err failure) = Err (status_of failure.cause)

-- the status of a command that ended so
abbrev pub status_shown : Result Answer Failure → ℕ
status_shown (Ok answer) = status_with answer.accepted
status_shown (Err failure) = status_of failure.cause

-- the answer that was written is the one that there was
abbrev pub IsSameAnswer : Result Answer Failure → Result Answer Failure → Type 0
IsSameAnswer answer (Ok written) = answer ≡ Ok written
IsSameAnswer answer (Err failure) = Unit {0}
