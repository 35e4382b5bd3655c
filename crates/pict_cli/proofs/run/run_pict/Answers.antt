use Rattle.std.proofs.Common.{◌≡◌, Ok, arith, inl, inr, refl, sym, ap, subst, ◌∙◌}
use Rattle.std.specs.Prelude.{IfSome, IsSomeAnd}
use Rattle.value_text.proofs.ListLemmas.{one_ok}
use Rattle.outside_io.specs.believed.Seen.{ReadFaultsRose, WriteFaultsRose}
use Rattle.command_line.specs.declared.files.FileKind.TheVariants as kinds
use Rattle.definitions.specs.believed.Settings.{Settings}
use Rattle.pict_cli.specs.believed.Ends.{CountsOut, CountsReads, CountsWrites, KeepsOthers, KeepsUnwritten, end_of}
use Rattle.pict_cli.specs.Ends.{IsQuiet}
use Rattle.pict_cli.specs.Options.{settings_seen}
use Rattle.pict_cli.specs.Ranges.{FitRun}
use Rattle.pict_cli.specs.believed.Steps.{HoldsMade}
use Rattle.pict_cli.specs.believed.Words.{asked_by, model_file, read_of_asked, written_of_asked}
use Rattle.pict_cli.specs.believed.Runs.{IsStatus, file_names, used_seed}
use Rattle.command_line.specs.believed.Told.{Tells, end_status, told_text}
use Rattle.command_line.specs.believed.Words.{texts}
use Rattle.pict_cli.proofs.Causes.{complete_end, long_end, missing_end, missing_rows_end, refused_end, stopped_end}
use Rattle.pict_cli.proofs.RunEnds.{calm_end, covers_whole, eight_is_end, form_known, not_three, not_two, proof_whole, quiet_of}
use Rattle.pict_cli.proofs.RunEnds.{ran_asked, seven_is_end, status_known, unbroken_end, untouched_end, unwritten_end}
use Rattle.pict_cli.proofs.run.run_pict.Goals as goal

pub returns-clause-headline : goal.returns-clause-headline
returns-clause-headline g c = λ zero s held source given is.
    covers_whole (ran_asked c.in-Ok.ensures.0 given.asked c.in-Ok.ensures.2 c.run-ended.ensures) held source given.model given.rows
    (form_known c.in-Ok.opts s (one_ok c.in-Ok.ensures.0 given.asked)) is (sym c.status_of.ensures ∙ zero)

pub returns-clause-proof : goal.returns-clause-proof
returns-clause-proof g c = λ zero s held after source given told.
    proof_whole (ran_asked c.in-Ok.ensures.0 given.asked c.in-Ok.ensures.2 c.run-ended.ensures) held source given.model given.rows
    (subst FitRun (one_ok c.in-Ok.ensures.0 given.asked) c.in-Ok.ensures.1).unproved (form_known c.in-Ok.opts s (one_ok c.in-Ok.ensures.0 given.asked)) after told
    (sym c.status_of.ensures ∙ zero)

pub returns-clause-run : goal.returns-clause-run
returns-clause-run g c = λ s asked.
    let ran = ran_asked c.in-Ok.ensures.0 asked c.in-Ok.ensures.2 c.run-ended.ensures in
    let names = c.names.result in
    let end = c.run-ended.result.end in
    let notes = c.as_slice-notes.result.now in
    let row_notes = c.as_slice-row_notes.result.now in
    let text = ap (λ seed. told_text seed notes row_notes names end) c.told_seed-seed.ensures
    ∙ ap (λ t. told_text (used_seed t.shuffle c.args.seed_word) notes row_notes names end) (one_ok c.in-Ok.ensures.0 asked)
    ∙ ap (λ told. told_text (used_seed s.shuffle c.args.seed_word) told row_notes names end) c.as_slice-notes.ensures
    ∙ ap (λ told. told_text (used_seed s.shuffle c.args.seed_word) c.run-ended.result.notes told names end) c.as_slice-row_notes.ensures
    ∙ ap (λ names. told_text (used_seed s.shuffle c.args.seed_word) c.run-ended.result.notes c.run-ended.result.row_notes names end)
    (c.names.ensures ∙ ap (file_names c.in-Ok.opts.model.now) (one_ok c.in-Ok.ensures.0 asked) ∙ ap (λ name. file_names name s) c.in-Ok.ensures.2) in
    record {
      notes = c.run-ended.result.notes;
      row_notes = c.run-ended.result.row_notes;
      end = end;
      ends = ran.ends;
      reads = ran.leaves.reads;
      writes = ran.leaves.writes;
      out = ran.leaves.faults;
      told =
          subst (Tells (g.E.Sink.seen c.args.diag.now) (g.E.Sink.seen c.tell-2.new.sink)) text
          (c.tell-2.result, c.tell-2.ensures);
      ended = c.status_of.ensures;
    }

pub returns-clause-made : goal.returns-clause-made
returns-clause-made g c = λ s n asked is.
    let ran = ran_asked c.in-Ok.ensures.0 asked c.in-Ok.ensures.2 c.run-ended.ensures in
    let name = model_file c.args.words.now in
    let after = (g.F.Folder.seen c.run-ended.new.files).files in
    subst (HoldsMade s n name after) (sym c.status_of.ensures) (subst (λ make. IfSome make (λ number. HoldsMade s number name after (end_status c.run-ended.result.end))) is ran.made)

pub returns-clause-statuses : goal.returns-clause-statuses
returns-clause-statuses g c = record {
  known = subst IsStatus (sym c.status_of.ensures) (status_known c.run-ended.result.end);
  worded = λ s asked three. not_three c.run-ended.result.end c.run-ended.ensures.leaves.worded (sym c.status_of.ensures ∙ three);
  answered = λ s asked full two.
      not_two c.run-ended.result.end ((ran_asked c.in-Ok.ensures.0 asked c.in-Ok.ensures.2 c.run-ended.ensures).leaves.answered full) (sym c.status_of.ensures ∙ two);
  complete = λ s source m spelled due.
      complete_end (ran_asked c.in-Ok.ensures.0 spelled.given.asked c.in-Ok.ensures.2 c.run-ended.ensures) c.status_of.result c.status_of.ensures source
      spelled.bytes m spelled.notes spelled.given.rows spelled.given.model spelled.within spelled.spelled due;
  stopped = λ s source m stop spelled due.
      stopped_end (ran_asked c.in-Ok.ensures.0 spelled.given.asked c.in-Ok.ensures.2 c.run-ended.ensures) c.status_of.result c.status_of.ensures source
      spelled.bytes m spelled.notes stop spelled.given.rows spelled.given.model spelled.within spelled.spelled due;
  missing_rows = λ s m spelled within.
      missing_rows_end (ran_asked c.in-Ok.ensures.0 spelled.given.asked c.in-Ok.ensures.2 c.run-ended.ensures) c.status_of.result c.status_of.ensures
      spelled.bytes m spelled.notes spelled.given.rows spelled.given.model spelled.within spelled.spelled within;
  refused = λ s bytes fault asked. refused_end (ran_asked c.in-Ok.ensures.0 asked c.in-Ok.ensures.2 c.run-ended.ensures) c.status_of.result c.status_of.ensures bytes fault;
  too_long = λ s bytes asked. long_end (ran_asked c.in-Ok.ensures.0 asked c.in-Ok.ensures.2 c.run-ended.ensures) c.status_of.result c.status_of.ensures bytes;
  missing = λ s asked. missing_end (ran_asked c.in-Ok.ensures.0 asked c.in-Ok.ensures.2 c.run-ended.ensures) c.status_of.result c.status_of.ensures;
  read = λ seven.
      let found = seven_is_end c.run-ended.result.end (sym c.status_of.ensures ∙ seven) in
      let s = settings_seen c.in-Ok.opts in
      let before = g.F.Folder.seen c.args.files.now in
      let after = g.F.Folder.seen c.run-ended.new.files in
      let name = c.in-Ok.opts.model.now in
      let rose = subst (λ e. CountsReads s name e before after) found.1 c.run-ended.ensures.leaves.reads in (
        found.0,
        subst (λ file. IsSomeAnd (read_of_asked file (asked_by (texts c.args.words.now)) found.0) (λ file. ReadFaultsRose file before after)) c.in-Ok.ensures.2
            (subst (λ asked. IsSomeAnd (read_of_asked name asked found.0) (λ file. ReadFaultsRose file before after)) (sym c.in-Ok.ensures.0) rose),
      );
  write = λ eight.
      let left = c.run-ended.ensures.leaves in
      let s = settings_seen c.in-Ok.opts in
      let name = c.in-Ok.opts.model.now in
      let before = g.F.Folder.seen c.args.files.now in
      let after = g.F.Folder.seen c.run-ended.new.files in
      elim (eight_is_end c.run-ended.result.end (sym c.status_of.ensures ∙ eight)) [
        | inl report ↦ inl (subst (λ e. CountsOut e (g.O.Sink.seen c.args.out.now) (g.O.Sink.seen c.run-ended.new.out)) report left.faults)
        | inr file ↦ inr (
          subst (λ e. IsQuiet e (g.O.Sink.seen c.args.out.now) (g.O.Sink.seen c.run-ended.new.out)) file.1 left.quiet,
          (
            file.0,
            subst (λ model. IsSomeAnd (written_of_asked model (asked_by (texts c.args.words.now)) file.0) (λ written. WriteFaultsRose written before after)) c.in-Ok.ensures.2
                (subst (λ asked. IsSomeAnd (written_of_asked name asked file.0) (λ written. WriteFaultsRose written before after)) (sym c.in-Ok.ensures.0)
                (subst (λ e. CountsWrites s name e before after) file.1 left.writes)),
          ),
        )
      ];
}

pub returns-clause-unchanged : goal.returns-clause-unchanged
returns-clause-unchanged g c = record {
  out = λ zero eight.
      let left = c.run-ended.ensures.leaves in
      quiet_of (end_of c.run-ended.result.end) _ _
      (untouched_end c.run-ended.result.end (λ e. zero (c.status_of.ensures ∙ e)) (λ e. eight (c.status_of.ensures ∙ e)) left.worded) left.quiet;
  files =
      let before = g.F.Folder.seen c.args.files.now in
      let after = g.F.Folder.seen c.run-ended.new.files in
      subst (λ name. KeepsUnwritten (written_of_asked name (asked_by (texts c.args.words.now))) before after) c.in-Ok.ensures.2
      (subst (λ asked. KeepsUnwritten (written_of_asked c.in-Ok.opts.model.now asked) before after) (sym c.in-Ok.ensures.0) c.run-ended.ensures.leaves.others);
  unwritten = λ zero eight.
      let left = c.run-ended.ensures.leaves in
      let before = g.F.Folder.seen c.args.files.now in
      let after = g.F.Folder.seen c.run-ended.new.files in
      subst (λ name. KeepsOthers (written_of_asked name (asked_by (texts c.args.words.now)) kinds.Model) before after) c.in-Ok.ensures.2
      (subst (λ asked. KeepsOthers (written_of_asked c.in-Ok.opts.model.now asked kinds.Model) before after) (sym c.in-Ok.ensures.0)
      (left.still (untouched_end c.run-ended.result.end (λ e. zero (c.status_of.ensures ∙ e)) (λ e. eight (c.status_of.ensures ∙ e)) left.worded)));
  read_faults = λ seven.
      calm_end (settings_seen c.in-Ok.opts) c.in-Ok.opts.model.now c.run-ended.result.end (g.F.Folder.seen c.args.files.now) (g.F.Folder.seen c.run-ended.new.files)
      (λ e. seven (c.status_of.ensures ∙ e)) c.run-ended.ensures.leaves.reads;
  write_faults = λ eight.
      unwritten_end (settings_seen c.in-Ok.opts) c.in-Ok.opts.model.now c.run-ended.result.end (g.F.Folder.seen c.args.files.now) (g.F.Folder.seen c.run-ended.new.files)
      (λ e. eight (c.status_of.ensures ∙ e)) c.run-ended.ensures.leaves.writes;
  put_faults = λ eight.
      unbroken_end c.run-ended.result.end (g.O.Sink.seen c.args.out.now) (g.O.Sink.seen c.run-ended.new.out) (λ e. eight (c.status_of.ensures ∙ e)) c.run-ended.ensures.leaves.faults;
}

pub returns-in-Err-clause-statuses : goal.returns-in-Err-clause-statuses
returns-in-Err-clause-statuses g c =
    let none : (s : Settings) → asked_by (texts c.args.words.now) ≡ Ok s → ⊥ = λ s asked. let differ = sym c.in-Err.ensures.1 ∙ asked in cc in
    record {
      known = refl;
      worded = λ s asked. absurd (none s asked);
      answered = λ s asked. absurd (none s asked);
      complete = λ s source m spelled. absurd (none s spelled.given.asked);
      stopped = λ s source m stop spelled. absurd (none s spelled.given.asked);
      missing_rows = λ s m spelled. absurd (none s spelled.given.asked);
      refused = λ s bytes fault asked. absurd (none s asked);
      too_long = λ s bytes asked. absurd (none s asked);
      missing = λ s asked. absurd (none s asked);
      read = λ seven. absurd (omega (arith, seven));
      write = λ eight. absurd (omega (arith, eight));
    }

pub returns-in-Err-clause-unchanged : goal.returns-in-Err-clause-unchanged
returns-in-Err-clause-unchanged g c = record {
  out = λ zero eight. refl;
  files = λ name others. refl;
  unwritten = λ zero eight name other. refl;
  read_faults = λ seven name. refl;
  write_faults = λ eight name. refl;
  put_faults = λ eight. refl;
}
