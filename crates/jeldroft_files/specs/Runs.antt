-- How a command that writes one text ends: with the text that its files call for, or by the cause for which they call
-- for none. (This project's rule.)
use Rattle.std.specs.Prelude.{◌≡◌, ◌≢◌, ◌⊎◌, ℕ, List, Option, None, Result, Ok, Err, IfSome}
use Rattle.std.specs.Global.{Vec}
use Rattle.outside_io.specs.declared.answers.WriteAnswer.TheVariants.{Done}
use Rattle.jeldroft_files.specs.believed.Failures as failures
use Rattle.jeldroft_files.specs.declared.failure.Failure.{Failure}
use Rattle.jeldroft_files.specs.believed.Runs.{Moment, IsWritten, KeepsFile, KeepsOthers}

-- files call for one thing: for a text or for none, and then by causes of one status
pub record IsDueOnce {Cause : Type 0} (status_of : Cause → ℕ) (Due : Result (List ℕ) Cause → Type 0) : Type 0 where
  pub not_both : (text : List ℕ) (cause : Cause) → Due (Ok text) → ¬ Due (Err cause)
  pub one_status : (one other : Cause) → Due (Err one) → Due (Err other) → status_of one ≡ status_of other

-- ---- how a command ends that has its answer: a text, or the status of the cause for which there is none

-- the answer is what the files call for, or memory or a device failed
abbrev pub IsCalledFor : {Cause : Type 0} → (Cause → ℕ) → (Result (List ℕ) Cause → Type 0) → Result (List ℕ) ℕ → Type 0
IsCalledFor status_of Due (Ok text) = Due (Ok text)
IsCalledFor {Cause = Cause} status_of Due (Err status) = (status ≡ 3) ⊎ ((cause : Cause) × Due (Err cause) × (status ≡ status_of cause))

-- a text was to go where the output goes: it did, with status 0, or that failed, with status 3
pub record Writes (text : List ℕ) (output : Option (List ℕ)) (before after : Moment) (status : ℕ) : Type 0 where
  pub known : (status ≡ 0) ⊎ (status ≡ 3)
  pub written : status ≡ 0 → IsWritten output text before after
  pub others : KeepsOthers output before.folder after.folder
  pub kept : status ≢ 0 → IfSome output (λ name. KeepsFile name before.folder after.folder)
  pub unprinted : output ≢ None → after.out ≡ before.out

-- the text of the answer was to be written; or there is none, and nothing happened
abbrev pub Ends : Result (List ℕ) ℕ → Option (List ℕ) → Moment → Moment → ℕ → Type 0
Ends (Ok text) output before after status = Writes text output before after status
Ends (Err given) output before after status = (status ≡ given) × ((given ≡ 2) ⊎ (given ≡ 3)) × (after ≡ before)

-- an answer as the program has it
abbrev pub answer_seen : Result (Vec ℕ) Failure → Result (List ℕ) ℕ
answer_seen (Ok text) = Ok text.items
answer_seen (Err failure) = Err (failures.status_of failure.cause)

-- the status of an end
abbrev pub end_status : {Done : Type 0} → Result Done Failure → ℕ
end_status (Ok done) = 0
end_status (Err failure) = failures.status_of failure.cause
