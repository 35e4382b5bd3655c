-- How a command ends that prints a verdict: with the one that its files call for, or by the cause for which they call for
-- none. (This project's rule.)
use Rattle.std.specs.Prelude.{◌≡◌, ◌≤◌, ◌⊎◌, ℕ, List, Result, Ok, Err}
use Rattle.outside_io.specs.believed.Seen.{SinkSeen}
use Rattle.jeldroft_files.specs.believed.Runs.{IsPrinted}

-- a verdict: its text, and its exit status, 0 for yes and 1 for no
pub record Judgement : Type 0 where
  pub text : List ℕ
  pub status : ℕ

-- what a command does, where `Due` tells which verdict, or which cause for none, the files call for, and causes have these
-- statuses, by what standard output tells before and after
pub record JudgesAs {Cause : Type 0} (status_of : Cause → ℕ) (Due : Result Judgement Cause → Type 0) (before after : SinkSeen) (status : ℕ) : Type 0 where
  -- 0 or 1: it printed the verdict that is called for
  pub judged : status ≤ 1 → (judgement : Judgement) × Due (Ok judgement) × (status ≡ judgement.status) × IsPrinted judgement.text before after
  -- 2: none is called for
  pub refused : status ≡ 2 → (cause : Cause) × Due (Err cause)
  -- and what is called for comes, unless memory or a device fails
  pub judgement_comes : (judgement : Judgement) → Due (Ok judgement) → (status ≡ judgement.status) ⊎ (status ≡ 3)
  pub refusal_comes : (cause : Cause) → Due (Err cause) → (status ≡ status_of cause) ⊎ (status ≡ 3)
