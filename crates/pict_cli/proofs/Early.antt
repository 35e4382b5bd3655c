-- Runs that end before anything is written, and steps that leave the folder as it was.
use Rattle.std.proofs.Common.{◌≡◌, ℕ, List, Option, None, Some, Ok, Err, Result, sym, ap, subst, ◌∙◌}
use Rattle.std.specs.Prelude.{IfErr, IfSome, IsSomeAnd}
use Rattle.outside_io.specs.believed.Faults.{Rose}
use Rattle.outside_io.specs.believed.Seen.{FolderSeen, SinkSeen, KeepsFiles, KeepsReadFaults, KeepsWriteFaults}
use Rattle.cov_model.specs.believed.Sound.{ModelView, IsSound}
use Rattle.definitions.specs.declared.effort.Effort.{Effort}
use Rattle.definitions.specs.believed.Settings.{Settings}
use Rattle.model_lex.specs.declared.note.Note.{Note}
use Rattle.command_line.specs.declared.stop.Stop.{Stop}
use Rattle.command_line.specs.declared.stop.Stop.TheVariants.{CannotWriteReport}
use Rattle.pict_cli.specs.believed.Ends.{CountsOut, CountsReads, CountsWrites, End, Misworded, Moment, Prints}
use Rattle.pict_cli.specs.Ends.{IsAnswered, IsEarly, IsQuiet, Leaves}
use Rattle.pict_cli.specs.Ends.{StaysStill}
use Rattle.pict_cli.specs.believed.Ends.{Stopped, Unanswered, Unprinted, Unread, Unwritten, Whole, end_of, file_read, file_written}
use Rattle.pict_cli.specs.believed.Modes.{RowSource}
use Rattle.pict_cli.specs.believed.Runs.{EndsBehind, HoldsProof, RunsModel, WritesProof, given_of, out_text, rows_of_run}

-- an end is early
pub stopped_early : (end : End) → end ≡ Stopped → IsEarly end
stopped_early end is = subst IsEarly (sym is) tt

-- and no question is above the budget
pub stopped_answered : (effort : Effort) (end : End) → end ≡ Stopped → IsAnswered effort end
stopped_answered effort end is = subst (IsAnswered effort) (sym is) (λ full e. cc)

-- nothing is printed
pub prints_early : (text : List ℕ) (out after : SinkSeen) (end : End) → IsEarly end → after ≡ out → Prints text out after end
prints_early text out after Whole early same = absurd early
prints_early text out after (Unread kind) early same = same
prints_early text out after (Unwritten kind) early same = absurd early
prints_early text out after Unprinted early same = absurd early
prints_early text out after Misworded early same = absurd early
prints_early text out after Unanswered early same = same
prints_early text out after Stopped early same = same

quiet_early : (out after : SinkSeen) (end : End) → IsEarly end → after ≡ out → IsQuiet end out after
quiet_early out after Whole early same = absurd early
quiet_early out after (Unread kind) early same = same
quiet_early out after (Unwritten kind) early same = absurd early
quiet_early out after Unprinted early same = absurd early
quiet_early out after Misworded early same = absurd early
quiet_early out after Unanswered early same = same
quiet_early out after Stopped early same = same

faults_early : (out after : SinkSeen) (end : End) → IsEarly end → after ≡ out → CountsOut end out after
faults_early out after Whole early same = absurd early
faults_early out after (Unread kind) early same = ap (λ sink. sink.faults) same
faults_early out after (Unwritten kind) early same = absurd early
faults_early out after Unprinted early same = absurd early
faults_early out after Misworded early same = absurd early
faults_early out after Unanswered early same = ap (λ sink. sink.faults) same
faults_early out after Stopped early same = ap (λ sink. sink.faults) same

writes_faults_early : (s : Settings) (name : List ℕ) (before after : FolderSeen) (end : End) → IsEarly end → KeepsWriteFaults before after → CountsWrites s name end before after
writes_faults_early s name before after Whole early same = absurd early
writes_faults_early s name before after (Unread kind) early same = same
writes_faults_early s name before after (Unwritten kind) early same = absurd early
writes_faults_early s name before after Unprinted early same = absurd early
writes_faults_early s name before after Misworded early same = absurd early
writes_faults_early s name before after Unanswered early same = same
writes_faults_early s name before after Stopped early same = same

still_early : (before after : FolderSeen) (end : End) → IsEarly end → KeepsFiles before after → StaysStill end before after
still_early before after Whole early same = absurd early
still_early before after (Unread kind) early same = same
still_early before after (Unwritten kind) early same = absurd early
still_early before after Unprinted early same = absurd early
still_early before after Misworded early same = absurd early
still_early before after Unanswered early same = same
still_early before after Stopped early same = same

-- no file is written
holds_early : (s : Settings) (seed : ℕ) (m : ModelView) (seeds : List (ℕ × List (Option ℕ))) (held after : Option (Option (List ℕ))) (end : End)
    → IsEarly end → after ≡ held → HoldsProof s seed m seeds held after end
holds_early s seed m seeds held after Whole early same = absurd early
holds_early s seed m seeds held after (Unread kind) early same = same
holds_early s seed m seeds held after (Unwritten kind) early same = absurd early
holds_early s seed m seeds held after Unprinted early same = absurd early
holds_early s seed m seeds held after Misworded early same = absurd early
holds_early s seed m seeds held after Unanswered early same = same
holds_early s seed m seeds held after Stopped early same = same

writes_early : (s : Settings) (seed : ℕ) (m : ModelView) (seeds : List (ℕ × List (Option ℕ))) (before after : FolderSeen) (end : End)
    → IsEarly end → KeepsFiles before after → WritesProof s seed m seeds before after end
writes_early s seed m seeds before after end early keeps = at s.proof
  where
    at : (proof : Option (List ℕ)) → IfSome proof (λ name. HoldsProof s seed m seeds (before.files name) (after.files name) end)
    at None = tt
    at (Some name) = holds_early s seed m seeds (before.files name) (after.files name) end early (keeps name)

-- a run on a model that ends so
pub runs_early : (s : Settings) (seed : ℕ) (m : ModelView) (source : RowSource) (row_notes : List Note) (before after : Moment) (end : Result (Unit {0}) Stop)
    → IsSound m → IsEarly (end_of end) → KeepsFiles before.folder after.folder → after.out ≡ before.out
    → EndsBehind s seed m source row_notes end → RunsModel s seed m source row_notes before after end
runs_early s seed m source row_notes before after end sound early keeps quiet ends = record {
  sound = sound;
  ends = ends;
  prints = prints_early (out_text s seed m (given_of s m source)) before.out after.out (end_of end) early quiet;
  writes = writes_early s seed m (rows_of_run s m source) before.folder after.folder (end_of end) early keeps;
  others = λ file other. keeps file;
}

-- the counts of faults of reading after a step that ended so
pub reads_stopped : (s : Settings) (name : List ℕ) (end : End) (before after : FolderSeen) → end ≡ Stopped → KeepsReadFaults before after → CountsReads s name end before after
reads_stopped s name end before after is keeps = subst (λ e. CountsReads s name e before after) (sym is) keeps

-- what a step leaves that only reads, and ends so
pub leaves_early : (s : Settings) (name : List ℕ) (before after : Moment) (end : End) → IsEarly end → IsAnswered s.effort end → KeepsFiles before.folder after.folder
    → CountsReads s name end before.folder after.folder → KeepsWriteFaults before.folder after.folder → after.out ≡ before.out
    → Leaves s name before after end
leaves_early s name before after end early answered keeps reads writes quiet = record {
  reads = reads;
  writes = writes_faults_early s name before.folder after.folder end early writes;
  faults = faults_early before.out after.out end early quiet;
  quiet = quiet_early before.out after.out end early quiet;
  others = λ file other. keeps file;
  still = still_early before.folder after.folder end early keeps;
  worded = λ e. subst IsEarly e early;
  answered = answered;
}

-- counts that another step kept
rose_from : (counts loaded after : List ℕ → ℕ) (file : Option (List ℕ)) → ((name : List ℕ) → loaded name ≡ counts name)
    → IsSomeAnd file (λ name. Rose (loaded name) (after name)) → IsSomeAnd file (λ name. Rose (counts name) (after name))
rose_from counts loaded after None keeps rose = rose
rose_from counts loaded after (Some name) keeps rose = subst (λ count. Rose count (after name)) (keeps name) rose

pub reads_from : (s : Settings) (name : List ℕ) (end : End) (before loaded after : FolderSeen) → KeepsReadFaults before loaded
    → CountsReads s name end loaded after → CountsReads s name end before after
reads_from s name Whole before loaded after keeps same = λ file. same file ∙ keeps file
reads_from s name (Unread kind) before loaded after keeps rose = rose_from before.read_faults loaded.read_faults after.read_faults (file_read s name kind) keeps rose
reads_from s name (Unwritten kind) before loaded after keeps same = λ file. same file ∙ keeps file
reads_from s name Unprinted before loaded after keeps same = λ file. same file ∙ keeps file
reads_from s name Misworded before loaded after keeps same = λ file. same file ∙ keeps file
reads_from s name Unanswered before loaded after keeps same = λ file. same file ∙ keeps file
reads_from s name Stopped before loaded after keeps same = λ file. same file ∙ keeps file

pub writes_from : (s : Settings) (name : List ℕ) (end : End) (before loaded after : FolderSeen) → KeepsWriteFaults before loaded
    → CountsWrites s name end loaded after → CountsWrites s name end before after
writes_from s name Whole before loaded after keeps same = λ file. same file ∙ keeps file
writes_from s name (Unread kind) before loaded after keeps same = λ file. same file ∙ keeps file
writes_from s name (Unwritten kind) before loaded after keeps rose = rose_from before.write_faults loaded.write_faults after.write_faults (file_written s name kind) keeps rose
writes_from s name Unprinted before loaded after keeps same = λ file. same file ∙ keeps file
writes_from s name Misworded before loaded after keeps same = λ file. same file ∙ keeps file
writes_from s name Unanswered before loaded after keeps same = λ file. same file ∙ keeps file
writes_from s name Stopped before loaded after keeps same = λ file. same file ∙ keeps file

still_from : (end : End) (before loaded after : FolderSeen) → KeepsFiles before loaded → StaysStill end loaded after → StaysStill end before after
still_from Whole before loaded after keeps still = tt
still_from (Unread kind) before loaded after keeps still = λ file. still file ∙ keeps file
still_from (Unwritten kind) before loaded after keeps still = tt
still_from Unprinted before loaded after keeps still = tt
still_from Misworded before loaded after keeps still = λ file. still file ∙ keeps file
still_from Unanswered before loaded after keeps still = λ file. still file ∙ keeps file
still_from Stopped before loaded after keeps still = λ file. still file ∙ keeps file

-- what is left, seen from before a step that kept files and counts
pub leaves_from : (s : Settings) (name : List ℕ) (before loaded after : Moment) (end : End) → KeepsFiles before.folder loaded.folder
    → KeepsReadFaults before.folder loaded.folder → KeepsWriteFaults before.folder loaded.folder → loaded.out ≡ before.out
    → Leaves s name loaded after end → Leaves s name before after end
leaves_from s name before loaded after end keeps reads writes quiet left = record {
  reads = reads_from s name end before.folder loaded.folder after.folder reads left.reads;
  writes = writes_from s name end before.folder loaded.folder after.folder writes left.writes;
  faults = subst (λ out. CountsOut end out after.out) quiet left.faults;
  quiet = subst (λ out. IsQuiet end out after.out) quiet left.quiet;
  others = λ file other. left.others file other ∙ keeps file;
  still = still_from end before.folder loaded.folder after.folder keeps left.still;
  worded = left.worded;
  answered = left.answered;
}

pub proof_from : (s : Settings) (seed : ℕ) (m : ModelView) (seeds : List (ℕ × List (Option ℕ))) (before loaded after : FolderSeen) (end : End)
    → KeepsFiles before loaded → WritesProof s seed m seeds loaded after end → WritesProof s seed m seeds before after end
proof_from s seed m seeds before loaded after end keeps writes = at s.proof writes
  where
    at : (proof : Option (List ℕ)) → IfSome proof (λ name. HoldsProof s seed m seeds (loaded.files name) (after.files name) end)
        → IfSome proof (λ name. HoldsProof s seed m seeds (before.files name) (after.files name) end)
    at None holds = tt
    at (Some name) holds = subst (λ held. HoldsProof s seed m seeds held (after.files name) end) (keeps name) holds

-- what is left where a text was printed, or not whole
pub leaves_printed : (s : Settings) (name : List ℕ) (before after : Moment) (end : Result (Unit {0}) Stop) → KeepsFiles before.folder after.folder
    → KeepsReadFaults before.folder after.folder → KeepsWriteFaults before.folder after.folder → IfErr end (λ stop. stop ≡ CannotWriteReport)
    → CountsOut (end_of end) before.out after.out → Leaves s name before after (end_of end)
leaves_printed s name before after (Ok done) keeps reads writes report faults = record {
  reads = reads;
  writes = writes;
  faults = faults;
  quiet = tt;
  others = λ file other. keeps file;
  still = tt;
  worded = λ e. let none : Whole ≡ Misworded = e in cc;
  answered = λ full e. let none : Whole ≡ Unanswered = e in cc;
}
leaves_printed s name before after (Err stop) keeps reads writes report faults =
    subst (λ end. Leaves s name before after end) (sym (ap (λ x. end_of (Err x)) report)) (record {
      reads = reads;
      writes = writes;
      faults = subst (λ x. CountsOut (end_of (Err x)) before.out after.out) report faults;
      quiet = tt;
      others = λ file other. keeps file;
      still = tt;
      worded = λ e. let none : Unprinted ≡ Misworded = e in cc;
      answered = λ full e. let none : Unprinted ≡ Unanswered = e in cc;
    })
