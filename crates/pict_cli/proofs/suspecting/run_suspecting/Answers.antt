use Rattle.std.proofs.Common.{◌≡◌, [], None, Err, ap, inl, refl, subst, sym, ◌∙◌}
use Rattle.std.specs.Prelude.{IsSomeAnd}
use Rattle.std.proofs.lemmas.List.{append-nil}
use Rattle.outside_io.specs.believed.Seen.{ReadFaultsRose}
use Rattle.suspect_tuples.specs.believed.SuspectsText.{suspects_text}
use Rattle.command_line.specs.declared.files.FileKind.TheVariants as kinds
use Rattle.command_line.specs.declared.stop.Stop.TheVariants.{CannotRead}
use Rattle.pict_cli.specs.believed.Ends.{CountsReads, Prints, end_of, moment}
use Rattle.pict_cli.specs.Ends.{IsAnswered, IsEarly}
use Rattle.pict_cli.specs.believed.Modes.{Suspect, row_file_in, rows_beside}
use Rattle.pict_cli.specs.Modes.{makes_suite}
use Rattle.pict_cli.specs.Options.{settings_seen}
use Rattle.pict_cli.specs.believed.RowSources.{read_bytes, read_result_bytes, read_source}
use Rattle.pict_cli.specs.believed.Runs.{EndsBehind, candidates_stop, rows_of_run}
use Rattle.pict_cli.specs.Steps.{HoldsResultsOf, IsDueOrNoMemory, StopsRows}
use Rattle.pict_cli.proofs.Behind.{ends_by, rows_answered, rows_counted, rows_early, rows_stopped, text_same, work_stopped, work_written}
use Rattle.pict_cli.proofs.Early.{leaves_early, leaves_from, leaves_printed, reads_stopped, runs_early, stopped_answered, stopped_early}
use Rattle.pict_cli.proofs.Measured.{writes_none}
use Rattle.pict_cli.proofs.RowFiles.{if_err_then}
use Rattle.pict_cli.proofs.Suspicions.{named_source, no_limit, same_candidates, same_suspects, work_due}
use Rattle.pict_cli.proofs.suspecting.run_suspecting.Goals as goal

pub returns-in_err-results-clause-runs : goal.returns-in_err-results-clause-runs
returns-in_err-results-clause-runs g c = λ seed source told.
    let s = settings_seen c.args.opts.now in
    let m = c.args.model.now in
    let stop = c.in_err-results.field-0.0 in
    let end = c.from_residual.result in
    let e = ends_by end stop c.from_residual.ensures.1 in
    runs_early s seed m source c.args.row_notes.now _ _ end c.assert_invariant.ensures
    (subst (λ x. IsEarly (end_of x)) (sym e) (rows_early stop c.in_err-results.ensures.other)) c.load_results.ensures.files refl
    (subst (λ notes. EndsBehind s seed m source notes end) (sym c.requires.none)
    (rows_stopped s seed m source stop end e (no_limit s m c.args.name.now c.requires.mode)
    (subst (λ mode. StopsRows (read_bytes mode m) source stop) (sym c.requires.mode)
    (named_source s c.args.name.now (g.F.Folder.seen c.args.files.now).files source (λ found. StopsRows (read_result_bytes m) found stop) c.requires.mode told c.in_err-results.ensures.stops))))

pub returns-in_err-results-clause-leaves : goal.returns-in_err-results-clause-leaves
returns-in_err-results-clause-leaves g c = λ name.
    let s = settings_seen c.args.opts.now in
    let stop = c.in_err-results.field-0.0 in
    let end = c.from_residual.result in
    let e = ends_by end stop c.from_residual.ensures.1 in
    let before = g.F.Folder.seen c.args.files.now in
    let after = g.F.Folder.seen c.load_results.new.files in
    leaves_early s name _ _ (end_of end) (subst (λ x. IsEarly (end_of x)) (sym e) (rows_early stop c.in_err-results.ensures.other))
    (subst (λ x. IsAnswered s.effort (end_of x)) (sym e) (rows_answered s.effort stop c.in_err-results.ensures.other)) c.load_results.ensures.files
    (subst (λ x. CountsReads s name (end_of x) before after) (sym e)
    (rows_counted s name stop before after c.in_err-results.ensures.other
    (λ is. subst (λ file. IsSomeAnd file (λ given. ReadFaultsRose given before after))
    (sym (ap (λ mode. row_file_in mode (rows_beside s.make s.seeds)) c.requires.mode)) (c.in_err-results.ensures.cannot_read (ap Err is)))
    (λ other. c.in_err-results.ensures.no_fault (λ is. other (let same : stop ≡ (CannotRead kinds.Rows) = cc in same)))))
    c.load_results.ensures.write_faults refl

pub returns-in_err-suspects-clause-runs : goal.returns-in_err-suspects-clause-runs
returns-in_err-suspects-clause-runs g c = λ seed source told.
    let s = settings_seen c.args.opts.now in
    let m = c.args.model.now in
    let results = c.in_ok-results.results in
    let read = named_source s c.args.name.now (g.F.Folder.seen c.args.files.now).files source (λ found. HoldsResultsOf m found results) c.requires.mode told c.in_ok-results.ensures.results in
    let stop = c.in_err-suspects.field-0.0 in
    let end = c.from_residual-in_err-suspects.result in
    let e = ends_by end stop c.from_residual-in_err-suspects.ensures.1 in
    let due = subst (λ count. IsDueOrNoMemory (candidates_stop count) stop) (same_candidates m results read.reading read.holds) c.in_err-suspects.ensures.stops in
    runs_early s seed m source results.rows.notes _ _ end c.assert_invariant.ensures
    (stopped_early (end_of end) (ap end_of e ∙ c.in_err-suspects.ensures.early)) c.load_results.ensures.files refl
    (work_stopped s seed m source read.reading results.rows.notes (no_limit s m c.args.name.now c.requires.mode) (Suspect c.args.name.now) c.requires.mode
    (ap (λ mode. read_source (read_bytes mode m) source) c.requires.mode ∙ read.read) read.holds.rows.notes stop end results.rows.notes e
    (work_due _ [] results.rows.notes stop due))

pub returns-in_err-suspects-clause-leaves : goal.returns-in_err-suspects-clause-leaves
returns-in_err-suspects-clause-leaves g c = λ name.
    let s = settings_seen c.args.opts.now in
    let end = c.from_residual-in_err-suspects.result in
    let stopped = ap end_of (ends_by end c.in_err-suspects.field-0.0 c.from_residual-in_err-suspects.ensures.1) ∙ c.in_err-suspects.ensures.early in
    leaves_early s name _ _ (end_of end) (stopped_early (end_of end) stopped) (stopped_answered s.effort (end_of end) stopped) c.load_results.ensures.files
    (reads_stopped s name (end_of end) (g.F.Folder.seen c.args.files.now) (g.F.Folder.seen c.load_results.new.files) stopped (c.in_ok-results.ensures.no_fault (λ is. cc))) c.load_results.ensures.write_faults refl

pub returns-clause-runs : goal.returns-clause-runs
returns-clause-runs g c = λ seed source told.
    let s = settings_seen c.args.opts.now in
    let m = c.args.model.now in
    let name = c.args.name.now in
    let results = c.in_ok-results.results in
    let notes = results.rows.notes in
    let read = named_source s name (g.F.Folder.seen c.args.files.now).files source (λ found. HoldsResultsOf m found results) c.requires.mode told c.in_ok-results.ensures.results in
    let reads = ap (λ mode. read_source (read_bytes mode m) source) c.requires.mode ∙ read.read in
    let within = no_limit s m name c.requires.mode in
    let end = c.print_suspects.result in
    record {
      sound = c.assert_invariant.ensures;
      ends =
          work_written s seed m source read.reading notes within (Suspect name) c.requires.mode reads read.holds.rows.notes end notes
          (subst (λ count. candidates_stop count ≡ None) (same_candidates m results read.reading read.holds) c.in_ok-suspects.ensures.within)
          (sym (append-nil notes)) (if_err_then end (λ stop is. inl is) c.print_suspects.ensures.stops);
      prints =
          subst (λ text. Prints text (g.O.Sink.seen c.args.out.now) (g.O.Sink.seen c.print_suspects.new.out) (end_of end))
          (ap suspects_text (c.in_ok-suspects.ensures.found ∙ same_suspects m results read.reading read.holds)
          ∙ sym (text_same s seed m source read.reading notes within (Suspect name) c.requires.mode reads read.holds.rows.notes))
          c.print_suspects.ensures.prints;
      writes = writes_none s seed m (rows_of_run s m source) (g.F.Folder.seen c.args.files.now) (g.F.Folder.seen c.load_results.new.files) (end_of end) (c.requires.fit.unproved (ap makes_suite c.requires.mode));
      others = λ file other. c.load_results.ensures.files file;
    }

pub returns-clause-leaves : goal.returns-clause-leaves
returns-clause-leaves g c = λ name.
    leaves_from (settings_seen c.args.opts.now) name (moment (g.F.Folder.seen c.args.files.now) (g.O.Sink.seen c.args.out.now))
    (moment (g.F.Folder.seen c.load_results.new.files) (g.O.Sink.seen c.args.out.now)) (moment (g.F.Folder.seen c.load_results.new.files) (g.O.Sink.seen c.print_suspects.new.out)) (end_of c.print_suspects.result) c.load_results.ensures.files (c.in_ok-results.ensures.no_fault (λ is. cc))
    c.load_results.ensures.write_faults refl
    (leaves_printed (settings_seen c.args.opts.now) name _ _ c.print_suspects.result (λ file. refl) (λ file. refl) (λ file. refl) c.print_suspects.ensures.stops c.print_suspects.ensures.faults)
