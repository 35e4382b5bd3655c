-- What the steps of a run say of each other: each gives what is called for, unless memory or a device failed.
use Rattle.std.specs.Prelude.{◌≡◌, ◌≤◌, ℕ, ◌⊎◌, List, Result, Ok, Err}
use Rattle.std.specs.declared.vec.Vec.{Vec}
use Rattle.std.specs.declared.alloc.Global.{Global}
use Rattle.outside_io.specs.believed.Seen.{KeepsFiles}
use Rattle.seq_check.specs.believed.Events.{EventsView}
use Rattle.jeldroft_files.specs.believed.Runs.{IsPrinted, Moment}
use Rattle.jeldroft_sequence.specs.believed.Runs.{Judgement}
use Rattle.jeldroft_sequence.specs.believed.Sequences.{status_of}
use Rattle.jeldroft_sequence.specs.declared.cause.SequenceCause.{SequenceCause}
use Rattle.jeldroft_sequence.specs.declared.ended.Ended.{Ended}
use Rattle.jeldroft_sequence.specs.declared.ended.Ended.TheVariants.{Whole, Refused}
use Rattle.jeldroft_sequence.specs.declared.verdict.Verdict.{Verdict}

-- a cause that is called for, or that memory or a device failed
abbrev pub IsDue : {A : Type 0} → Result A SequenceCause → SequenceCause → Type 0
IsDue called cause = (called ≡ Err cause) ⊎ (status_of cause ≡ 3)

-- bytes, or why there are none
abbrev pub Gives : Result (List ℕ) SequenceCause → Result (Vec ℕ Global) SequenceCause → Type 0
Gives called (Ok bytes) = called ≡ Ok bytes.items
Gives called (Err cause) = IsDue called cause

-- events, or why there are none
abbrev pub GivesEvents : Result EventsView SequenceCause → Result EventsView SequenceCause → Type 0
GivesEvents called (Ok e) = called ≡ Ok e
GivesEvents called (Err cause) = IsDue called cause

-- the exit status of an end with a text
abbrev pub ended_status : Ended → ℕ
ended_status Whole = 0
ended_status Refused = 1

-- a verdict, or why there is none
abbrev pub judgement_seen : Verdict → Judgement
judgement_seen verdict = record { text = verdict.text.items; status = ended_status verdict.ended }

abbrev pub GivesVerdict : Result Judgement SequenceCause → Result Verdict SequenceCause → Type 0
GivesVerdict called (Ok verdict) = called ≡ Ok (judgement_seen verdict)
GivesVerdict called (Err cause) = IsDue called cause

-- answers, and an end, by the status of a cause
abbrev pub report_seen : Result (Vec ℕ Global) SequenceCause → Result (List ℕ) ℕ
report_seen (Ok text) = Ok text.items
report_seen (Err cause) = Err (status_of cause)

abbrev pub verdict_seen : Result Verdict SequenceCause → Result Judgement ℕ
verdict_seen (Ok verdict) = Ok (judgement_seen verdict)
verdict_seen (Err cause) = Err (status_of cause)

abbrev pub end_status : Result Ended SequenceCause → ℕ
end_status (Ok ended) = ended_status ended
end_status (Err cause) = status_of cause

-- a verdict was to be printed: it was, with its status, or that failed, with status 3; or there is none, and nothing
-- happened
abbrev pub Prints : Result Judgement ℕ → Moment → Moment → ℕ → Type 0
Prints (Ok judgement) before after status =
    (((status ≡ judgement.status) × IsPrinted judgement.text before.out after.out) ⊎ (status ≡ 3))
    × (judgement.status ≤ 1) × KeepsFiles before.folder after.folder
Prints (Err given) before after status = (status ≡ given) × ((given ≡ 2) ⊎ (given ≡ 3)) × (after ≡ before)
