-- Whole runs, from how they got their model and how they went on.
use Rattle.std.proofs.Common.{◌≡◌, ℕ, List, [], Option, None, Some, Ok, Err, Result, refl, sym, ap, subst, ◌∙◌}
use Rattle.std.specs.Prelude.{◌≢◌, IfSome, IsSomeAnd, option_map}
use Rattle.outside_io.specs.believed.Files.{Files}
use Rattle.outside_io.specs.believed.Seen.{KeepsOtherFiles, KeepsReadFaults, WriteFaultsRose}
use Rattle.made_models.specs.believed.MadeModel.{made_text}
use Rattle.definitions.specs.believed.Settings.{Settings}
use Rattle.model_lex.specs.declared.note.Note.{Note}
use Rattle.command_line.specs.believed.Told.{end_status}
use Rattle.command_line.specs.declared.files.FileKind.TheVariants as kinds
use Rattle.command_line.specs.declared.stop.Stop.{Stop}
use Rattle.command_line.specs.declared.stop.Stop.TheVariants.{OutOfMemory, CannotWrite}
use Rattle.pict_cli.specs.believed.Ends.{CountsOut, End, Moment, end_of, file_written}
use Rattle.pict_cli.specs.Ends.{IsQuiet, Leaves, LeavesAll}
use Rattle.pict_cli.specs.believed.Making.{EndsFrom, Writes, cannot_write_model, goes_on, no_room}
use Rattle.pict_cli.specs.believed.Modes.{mode_beside, mode_in, model_from, output_of, row_file_in, row_source, rows_beside, source_in}
use Rattle.pict_cli.specs.believed.Runs.{Ends}
use Rattle.pict_cli.specs.believed.Steps.{HoldsMade}
use Rattle.pict_cli.specs.Steps.{Ran, RanOn, StopsMaking, unmade, write_failed}
use Rattle.pict_cli.proofs.Early.{leaves_early, reads_from, writes_from}
use Rattle.pict_cli.proofs.RunEnds.{still_of, untouched_end, zero_is_end}

-- what a run on a model leaves, a whole run leaves
leaves_all : (s : Settings) (name : List ℕ) (before after : Moment) (end : End) → Leaves s name before after end → LeavesAll s name before after end
leaves_all s name before after end left = record {
  reads = left.reads;
  writes = left.writes;
  faults = left.faults;
  quiet = left.quiet;
  others = λ file none. left.others file (none kinds.Proof);
  still = λ early file other. still_of end before.folder after.folder early left.still file;
  worded = left.worded;
  answered = left.answered;
}

-- a run on what the model file holds
pub ran_on_file : (s : Settings) (seed : ℕ) (name : List ℕ) (before after : Moment) (notes row_notes : List Note) (end : Result (Unit {0}) Stop)
    → s.make ≡ None → RanOn (before.folder.files name) s seed name before after notes row_notes end → Ran s seed name before after notes row_notes end
ran_on_file s seed name before after notes row_notes end none ran = record {
  ends = λ held at.
      subst (λ make. EndsFrom make name (λ start. Ends s seed held (row_source s before.folder.files) notes row_notes start after end) notes row_notes before after end) (sym none)
      (ran.ends held (sym (ap (λ make. model_from make (before.folder.files name)) none) ∙ at));
  leaves = leaves_all s name before after (end_of end) ran.leaves;
  made = subst (λ make. IfSome make (λ n. HoldsMade s n name after.folder.files (end_status end))) (sym none) tt;
}

-- a model file that a run on a model leaves as it is
model_left : (s : Settings) (name : List ℕ) (start after : Moment) (end : Result (Unit {0}) Stop) → Leaves s name start after (end_of end)
    → end_status end ≢ 8 → (end_status end ≡ 0 → s.proof ≢ Some name) → after.folder.files name ≡ start.folder.files name
model_left s name start after (Ok done) left eight apart = left.others name (apart refl)
model_left s name start after (Err stop) left eight apart =
    still_of (end_of (Err stop)) start.folder after.folder
    (untouched_end (Err stop) (λ zero. let no : ⊥ = let same = zero_is_end (Err stop) zero in cc in absurd no) eight left.worded) left.still name

-- a run that makes the model of a number
module _ (s : Settings) (seed : ℕ) (name : List ℕ) (n : ℕ) (is : s.make ≡ Some n) where
  written_is : file_written s name kinds.Model ≡ Some name
  written_is = ap (option_map (λ made. name)) is

  -- a name that isn't written isn't the model file's
  apart : (file : List ℕ) → file_written s name kinds.Model ≢ Some file → file ≢ name
  apart file other e = other (written_is ∙ ap Some (sym e))

  source_kept : (files others : Files) → row_source s files ≡ row_source s others
  source_kept files others = ap (λ make. source_in (rows_of make) files) is ∙ sym (ap (λ make. source_in (rows_of make) others) is)
    where
      rows_of : Option ℕ → Option (List ℕ)
      rows_of make = row_file_in (mode_beside make (mode_in s.suspect s.measure (output_of s))) (rows_beside make s.seeds)

  from_made : (held : Option (List ℕ)) (notes row_notes : List Note) (before after : Moment) (end : Result (Unit {0}) Stop)
      → EndsFrom (Some n) name (λ start. Ends s seed held (row_source s before.folder.files) notes row_notes start after end) notes row_notes before after end
      → EndsFrom s.make name (λ start. Ends s seed held (row_source s before.folder.files) notes row_notes start after end) notes row_notes before after end
  from_made held notes row_notes before after end =
      subst (λ make. EndsFrom make name (λ start. Ends s seed held (row_source s before.folder.files) notes row_notes start after end) notes row_notes before after end) (sym is)

  leaves_written : (before start after : Moment) (end : End) → Writes name (made_text n) before start → Leaves s name start after end → LeavesAll s name before after end
  leaves_written before start after end written left = record {
    reads = reads_from s name end before.folder start.folder after.folder written.reads left.reads;
    writes = writes_from s name end before.folder start.folder after.folder written.writes left.writes;
    faults = subst (λ out. CountsOut end out after.out) written.out left.faults;
    quiet = subst (λ out. IsQuiet end out after.out) written.out left.quiet;
    others = λ file none. left.others file (none kinds.Proof) ∙ written.others file (apart file (none kinds.Model));
    still = λ early file other. still_of end start.folder after.folder early left.still file ∙ written.others file (apart file other);
    worded = left.worded;
    answered = left.answered;
  }

  -- it went on with the made model
  pub ran_on_made : (text : List ℕ) (before start after : Moment) (notes row_notes : List Note) (end : Result (Unit {0}) Stop) → text ≡ made_text n → Writes name (made_text n) before start
      → RanOn (Some (Some text)) s seed name start after notes row_notes end → Ran s seed name before after notes row_notes end
  ran_on_made text before start after notes row_notes end same written ran = record {
    ends = λ held at.
        from_made held notes row_notes before after end (goes_on start written
        (subst (λ told. Ends s seed held told notes row_notes start after end) (source_kept start.folder.files before.folder.files)
        (ran.ends held (ap (λ bytes. Some (Some bytes)) same ∙ sym (ap (λ make. model_from make (before.folder.files name)) is) ∙ at))));
    leaves = leaves_written before start after (end_of end) written ran.leaves;
    made =
        subst (λ make. IfSome make (λ number. HoldsMade s number name after.folder.files (end_status end))) (sym is)
        (λ one eight other. subst (λ found. IfSome found (λ held. held ≡ Some (made_text n))) (sym (model_left s name start after end ran.leaves eight other)) written.held);
  }

  -- it stopped before
  pub ran_unmade : (before after : Moment) (notes row_notes : List Note) (end : Result (Unit {0}) Stop) (stop : Stop) → notes ≡ [] → row_notes ≡ [] → end ≡ Err stop
      → KeepsOtherFiles name before.folder after.folder → KeepsReadFaults before.folder after.folder → after.out ≡ before.out
      → StopsMaking name (made_text n) before.folder after.folder stop → Ran s seed name before after notes row_notes end
  ran_unmade before after notes row_notes end stop told told_rows e others reads quiet (unmade stops keeps writes) =
      subst (Ran s seed name before after notes row_notes) (sym (e ∙ ap Err stops)) (record {
        ends = λ held at. from_made held notes row_notes before after (Err OutOfMemory) (no_room refl told told_rows quiet keeps);
        leaves = leaves_all s name before after (end_of (Err OutOfMemory)) (leaves_early s name before after (end_of (Err OutOfMemory)) tt (λ full e. cc) keeps reads writes quiet);
        made = subst (λ make. IfSome make (λ number. HoldsMade s number name after.folder.files 1)) (sym is) (λ one eight other. absurd (one refl));
      })
  ran_unmade before after notes row_notes end stop told told_rows e others reads quiet (write_failed stops held rose) =
      subst (Ran s seed name before after notes row_notes) (sym (e ∙ ap Err stops)) (record {
        ends = λ held_before at. from_made held_before notes row_notes before after (Err (CannotWrite kinds.Model)) (cannot_write_model refl told told_rows quiet others held);
        leaves = record {
          reads = reads;
          writes = subst (λ file. IsSomeAnd file (λ written. WriteFaultsRose written before.folder after.folder)) (sym written_is) rose;
          faults = ap (λ out. out.faults) quiet;
          quiet = quiet;
          others = λ file none. others file (apart file (none kinds.Model));
          still = λ early. absurd early;
          worded = λ no. cc;
          answered = λ full no. cc;
        };
        made = subst (λ make. IfSome make (λ number. HoldsMade s number name after.folder.files 8)) (sym is) (λ one eight other. absurd (eight refl));
      })
