-- What each command promises of a run, from one moment to another, with what is told on the way, to a terminal or to none:
-- what the contract of its call says.
use Rattle.std.specs.Prelude.{◌≡◌, ◌≢◌, ℕ, not, Bool, true, false, List, Option, Some, None, IsSomeAnd}
use Rattle.definitions.specs.believed.Laws.{IsCertified}
use Rattle.outside_io.specs.believed.Seen.{SinkSeen}
use Rattle.check_cli.specs.believed.Runs as checked
use Rattle.jeldroft_args.specs.declared.check.Check.{Check}
use Rattle.jeldroft_args.specs.declared.import.Import.{Import}
use Rattle.jeldroft_args.specs.declared.measure.Measure.{Measure}
use Rattle.jeldroft_args.specs.declared.suspect.Suspect.{Suspect}
use Rattle.jeldroft_args.specs.declared.sequence.Sequence.{Sequence}
use Rattle.jeldroft_args.specs.declared.generate.Generate.{Generate}
use Rattle.jeldroft_args.specs.declared.shrink.Shrink.{Shrink}
use Rattle.jeldroft_args.specs.declared.show.Show.{Show}
use Rattle.jeldroft_args.specs.declared.lint.Lint.{Lint}
use Rattle.jeldroft_args.specs.declared.command.Command.{Command}
use Rattle.jeldroft_args.specs.declared.command.Command.TheVariants as asks
use Rattle.jeldroft_check.specs.believed.Runs as checks
use Rattle.jeldroft_lint.specs.believed.Linting.{LintsAs, Prints}
use Rattle.jeldroft_generate.specs.believed.Due as generates
use Rattle.jeldroft_generate.specs.believed.Runs as generated
use Rattle.jeldroft_generate.specs.believed.Told as generated_told
use Rattle.jeldroft_shrink.specs.believed.Causes as shrinks
use Rattle.jeldroft_shrink.specs.believed.Runs as shrunk
use Rattle.jeldroft_shrink.specs.believed.Told as shrunk_told
use Rattle.jeldroft_show.specs.believed.Certified.{HoldsCertified}
use Rattle.jeldroft_show.specs.believed.Due as due
use Rattle.jeldroft_show.specs.believed.Shows as shown
use Rattle.jeldroft_files.specs.believed.Failures.{status_of}
use Rattle.jeldroft_files.specs.believed.Runs.{IsUntouched, IsWritten, Leaves, Moment, RunsAs}
use Rattle.jeldroft_import.specs.believed.Imports as imports
use Rattle.acts_front.specs.believed.SameModels.{IsFaithful}
use Rattle.jeldroft_measure.specs.believed.Due as measures
use Rattle.jeldroft_suspect.specs.believed.Due as suspects
use Rattle.jeldroft_sequence.specs.believed.Runs.{JudgesAs}
use Rattle.jeldroft_sequence.specs.believed.Sequences as sequences
use Rattle.seq_cover.specs.believed.Covering.{IsAccepted}

pub record KeepsCheck (args : Check) (before after : Moment) (status : ℕ) : Type 0 where
  pub certified : status ≡ 0 → (held : checked.HeldFiles) → checks.Holds before.folder.files args held → checks.HasReadings args IsCertified held
  pub verdict : (held : checked.HeldFiles) → checks.Holds before.folder.files args held → checks.ChecksAs (checks.Due args held) before after status
  pub leaves : Leaves None before after status

pub record KeepsMeasure (args : Measure) (before after : Moment) (status : ℕ) : Type 0 where
  pub runs : (model table : Option (List ℕ)) → before.folder.files args.model.name ≡ Some model → before.folder.files args.table ≡ Some table
      → RunsAs status_of (measures.Due args model table) args.output before after status
  pub leaves : Leaves args.output before after status

pub record KeepsSuspect (args : Suspect) (before after : Moment) (status : ℕ) : Type 0 where
  pub runs : (model table : Option (List ℕ)) → before.folder.files args.model.name ≡ Some model → before.folder.files args.results ≡ Some table
      → RunsAs status_of (suspects.Due args model table) args.output before after status
  pub leaves : Leaves args.output before after status

pub record KeepsImport (args : Import) (before after : Moment) (status : ℕ) : Type 0 where
  pub runs : (held : Option (List ℕ)) → before.folder.files args.file ≡ Some held
      → RunsAs imports.status_of (imports.Due (not args.case_sensitive) held) args.output before after status
  pub meaning : status ≡ 0 → (held : Option (List ℕ)) → before.folder.files args.file ≡ Some held
      → IsSomeAnd held (λ bytes. (text : List ℕ) × IsFaithful (not args.case_sensitive) bytes text × IsWritten args.output text before after)
  pub leaves : Leaves args.output before after status

pub record KeepsSequence (args : Sequence) (before after : Moment) (status : ℕ) : Type 0 where
  pub orders : args.report ≡ None → (held : Option (List ℕ)) → before.folder.files args.events ≡ Some held
      → RunsAs sequences.status_of (sequences.IsReportDue args.length held) args.output before after status
  pub covers : args.report ≡ None → status ≡ 0 → (held : Option (List ℕ)) → before.folder.files args.events ≡ Some held
      → (text : List ℕ) × sequences.CoversEvents args.length held text × IsWritten args.output text before after
  pub verdict : (name : List ℕ) (held report : Option (List ℕ)) → args.report ≡ Some name → before.folder.files args.events ≡ Some held
      → before.folder.files name ≡ Some report → JudgesAs sequences.status_of (sequences.IsJudgementDue args.length held report) before.out after.out status
  pub accepts : status ≡ 0 → (name : List ℕ) (held report : Option (List ℕ)) → args.report ≡ Some name → before.folder.files args.events ≡ Some held
      → before.folder.files name ≡ Some report → sequences.HasVerdict args.length held report IsAccepted
  pub refuses : status ≡ 1 → (name : List ℕ) (held report : Option (List ℕ)) → args.report ≡ Some name → before.folder.files args.events ≡ Some held
      → before.folder.files name ≡ Some report → sequences.HasVerdict args.length held report (λ verdict. ¬ IsAccepted verdict)
  pub leaves : Leaves (sequences.output_of args.report args.output) before after status

pub record KeepsGenerate (args : Generate) (terminal : Bool) (before after : Moment) (told : SinkSeen) (status : ℕ) : Type 0 where
  pub headline : status ≡ 0 → generated.Covers args before after
  -- where fewer tests are asked for, the last line that a terminal is told sums them up
  pub sums : status ≡ 0 → args.shrinking ≢ None → terminal ≡ true → args.quiet ≡ false → (held : generates.Held) → generates.AreHeld args before.folder.files held
      → generated_told.SumsUp args held before after told
  pub runs : (held : generates.Held) → generates.AreHeld args before.folder.files held → generated.Generates args held before after status
  pub leaves : generated.Leaves args before after status

pub record KeepsShrink (args : Shrink) (terminal : Bool) (before after : Moment) (told : SinkSeen) (status : ℕ) : Type 0 where
  pub shorter : status ≡ 0 → (held : shrunk.HeldFiles) → shrunk.Holds before.folder.files args held → shrunk.WritesShorter args held before after
  -- the last line that a terminal is told sums it up
  pub sums : status ≡ 0 → terminal ≡ true → args.quiet ≡ false → (held : shrunk.HeldFiles) → shrunk.Holds before.folder.files args held
      → shrunk_told.SumsUp args held before after told
  pub runs : (held : shrunk.HeldFiles) → shrunk.Holds before.folder.files args held → RunsAs shrinks.status_of (shrunk.IsDue args held) args.output before after status
  pub leaves : Leaves args.output before after status
  pub answered : status ≢ 1

pub record KeepsShow (args : Show) (before after : Moment) (status : ℕ) : Type 0 where
  pub certified : status ≡ 0 → (held : due.HeldFiles) → due.form_of args.format ≡ None → due.Holds before.folder.files args held → HoldsCertified args held
  pub shows : (held : due.HeldFiles) → due.Holds before.folder.files args held
      → shown.ShowsAs (due.Due (due.form_of args.format) args held) args.output before after status
  pub leaves : shown.LeavesShown args.output before after status

pub record KeepsLint (args : Lint) (before after : Moment) (status : ℕ) : Type 0 where
  pub lints : (held : Option (List ℕ)) → before.folder.files args.model.name ≡ Some held → LintsAs args held status
  pub prints : (held : Option (List ℕ)) → before.folder.files args.model.name ≡ Some held → Prints args held before.out after.out status
  pub leaves : Leaves None before after status

-- what is promised of a command
abbrev pub Keeps : Command → Bool → Moment → Moment → SinkSeen → ℕ → Type 0
Keeps (asks.Generate args) terminal before after told status = KeepsGenerate args terminal before after told status
Keeps (asks.Check args) terminal before after told status = KeepsCheck args before after status
Keeps (asks.Shrink args) terminal before after told status = KeepsShrink args terminal before after told status
Keeps (asks.Show args) terminal before after told status = KeepsShow args before after status
Keeps (asks.Lint args) terminal before after told status = KeepsLint args before after status
Keeps (asks.Measure args) terminal before after told status = KeepsMeasure args before after status
Keeps (asks.Suspect args) terminal before after told status = KeepsSuspect args before after status
Keeps (asks.Sequence args) terminal before after told status = KeepsSequence args before after status
Keeps (asks.Import args) terminal before after told status = KeepsImport args before after status

-- memory was refused before a command began: nothing happened
pub record IsUnbegun (before after : Moment) (status : ℕ) : Type 0 where
  pub failed : status ≡ 3
  pub untouched : IsUntouched before after
