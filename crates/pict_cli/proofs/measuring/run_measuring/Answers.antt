use Rattle.std.proofs.Common.{[], ap, inl, refl, subst, sym, ◌∙◌}
use Rattle.std.proofs.lemmas.List.{append-nil}
use Rattle.definitions.specs.believed.Figures.{figures}
use Rattle.definitions.specs.believed.Search.{first_measured_over}
use Rattle.definitions.specs.believed.Statistics.{figures_text}
use Rattle.pict_cli.specs.believed.Ends.{CountsReads, Prints, end_of, moment}
use Rattle.pict_cli.specs.Ends.{IsAnswered, IsEarly}
use Rattle.pict_cli.specs.believed.Modes.{Measure, makes_plan}
use Rattle.pict_cli.specs.Modes.{makes_suite}
use Rattle.pict_cli.specs.Options.{settings_seen}
use Rattle.pict_cli.specs.believed.Runs.{EndsBehind, rows_of_run, spent_at}
use Rattle.pict_cli.proofs.Behind.{ends_by, file_read, given_in, rows_answered, rows_early, text_same, within_due, work_stopped, work_written}
use Rattle.pict_cli.proofs.Early.{leaves_early, leaves_from, leaves_printed, runs_early}
use Rattle.pict_cli.proofs.Measured.{writes_none}
use Rattle.pict_cli.proofs.Questions.{IsOfSearch, none_spent, reads_searched, search_answered, search_early, search_ends}
use Rattle.pict_cli.proofs.RowFiles.{if_err_then}
use Rattle.pict_cli.proofs.Suspicions.{work_due}
use Rattle.pict_cli.proofs.measuring.run_measuring.Goals as goal
use Rattle.row_text.proofs.SeenRows.{suite_rows}

pub returns-in_err-ready-clause-runs : goal.returns-in_err-ready-clause-runs
returns-in_err-ready-clause-runs g c = λ seed source told.
    let s = settings_seen c.args.opts.now in
    let m = c.args.model.now in
    let end = c.from_residual.result in
    let e = ends_by end c.in_err-ready.field-0.0 c.from_residual.ensures.1 in
    runs_early s seed m source c.args.row_notes.now _ _ end c.assert_invariant.ensures
    (subst (λ x. IsEarly (end_of x)) (sym e) (rows_early c.in_err-ready.field-0.0 c.in_err-ready.ensures.other)) c.prepare.ensures.files refl
    (subst (λ notes. EndsBehind s seed m source notes end) (sym c.requires.none) (subst (EndsBehind s seed m source []) (sym e) (c.in_err-ready.ensures.stops seed source told)))

pub returns-in_err-ready-clause-leaves : goal.returns-in_err-ready-clause-leaves
returns-in_err-ready-clause-leaves g c = λ name.
    let s = settings_seen c.args.opts.now in
    let end = c.from_residual.result in
    let e = ends_by end c.in_err-ready.field-0.0 c.from_residual.ensures.1 in
    leaves_early s name _ _ (end_of end) (subst (λ x. IsEarly (end_of x)) (sym e) (rows_early c.in_err-ready.field-0.0 c.in_err-ready.ensures.other))
    (subst (λ x. IsAnswered s.effort (end_of x)) (sym e) (rows_answered s.effort c.in_err-ready.field-0.0 c.in_err-ready.ensures.other)) c.prepare.ensures.files
    (subst (λ x. CountsReads s name (end_of x) (g.F.Folder.seen c.args.files.now) (g.F.Folder.seen c.prepare.new.files)) (sym e) (c.in_err-ready.ensures.reads name))
    c.prepare.ensures.write_faults refl

pub returns-in_err-figures-clause-runs : goal.returns-in_err-figures-clause-runs
returns-in_err-figures-clause-runs g c = λ seed source told.
    let s = settings_seen c.args.opts.now in
    let m = c.args.model.now in
    let file = c.in_ok-ready.ready.file in
    let plans = ap makes_plan c.requires.mode.1 in
    let read = c.in_ok-ready.ensures.rows source told in
    let stop = c.in_err-figures.field-0.0 in
    let end = c.from_residual-in_err-figures.result in
    let e = ends_by end stop c.from_residual-in_err-figures.ensures.1 in
    runs_early s seed m source file.notes _ _ end c.assert_invariant.ensures
    (search_early s.effort (end_of end) (subst (λ x. IsOfSearch s.effort (end_of x)) (sym e) (search_ends s.effort (first_measured_over m s.effort) stop c.in_err-figures.ensures.stops)))
    c.prepare.ensures.files refl
    (work_stopped s seed m source (given_in file read.reading) file.notes (within_due s m plans c.in_ok-ready.ensures.within) (Measure c.requires.mode.0) c.requires.mode.1
    (file_read s m source file plans read) read.holds.notes stop end file.notes e (work_due (spent_at s.effort (first_measured_over m s.effort)) [] file.notes stop c.in_err-figures.ensures.stops))

pub returns-in_err-figures-clause-leaves : goal.returns-in_err-figures-clause-leaves
returns-in_err-figures-clause-leaves g c = λ name.
    let s = settings_seen c.args.opts.now in
    let end = c.from_residual-in_err-figures.result in
    let stop = c.in_err-figures.field-0.0 in
    let of =
    subst (λ x. IsOfSearch s.effort (end_of x)) (sym (ends_by end stop c.from_residual-in_err-figures.ensures.1))
    (search_ends s.effort (first_measured_over c.args.model.now s.effort) stop c.in_err-figures.ensures.stops) in
    leaves_early s name _ _ (end_of end) (search_early s.effort (end_of end) of) (search_answered s.effort (end_of end) of) c.prepare.ensures.files
    (reads_searched s name (end_of end) (g.F.Folder.seen c.args.files.now) (g.F.Folder.seen c.prepare.new.files) of c.in_ok-ready.ensures.no_fault) c.prepare.ensures.write_faults refl

pub returns-clause-runs : goal.returns-clause-runs
returns-clause-runs g c = λ seed source told.
    let s = settings_seen c.args.opts.now in
    let m = c.args.model.now in
    let file = c.in_ok-ready.ready.file in
    let mode = Measure c.requires.mode.0 in
    let plans = ap makes_plan c.requires.mode.1 in
    let within = within_due s m plans c.in_ok-ready.ensures.within in
    let read = c.in_ok-ready.ensures.rows source told in
    let given = given_in file read.reading in
    let reads = file_read s m source file plans read in
    let end = c.print_figures.result in
    record {
      sound = c.assert_invariant.ensures;
      ends =
          work_written s seed m source given file.notes within mode c.requires.mode.1 reads read.holds.notes end file.notes
          (none_spent s.effort (first_measured_over m s.effort) c.in_ok-figures.ensures.answered) (sym (append-nil file.notes))
          (if_err_then end (λ stop is. inl is) c.print_figures.ensures.stops);
      prints =
          subst (λ text. Prints text (g.O.Sink.seen c.args.out.now) (g.O.Sink.seen c.print_figures.new.out) (end_of end))
          (ap figures_text (c.in_ok-figures.ensures.figures ∙ ap (figures m) (sym (suite_rows file.rows)))
          ∙ sym (text_same s seed m source given file.notes within mode c.requires.mode.1 reads read.holds.notes))
          c.print_figures.ensures.prints;
      writes = writes_none s seed m (rows_of_run s m source) (g.F.Folder.seen c.args.files.now) (g.F.Folder.seen c.prepare.new.files) (end_of end) (c.requires.fit.unproved (ap makes_suite c.requires.mode.1));
      others = λ file other. c.prepare.ensures.files file;
    }

pub returns-clause-leaves : goal.returns-clause-leaves
returns-clause-leaves g c = λ name.
    leaves_from (settings_seen c.args.opts.now) name (moment (g.F.Folder.seen c.args.files.now) (g.O.Sink.seen c.args.out.now))
    (moment (g.F.Folder.seen c.prepare.new.files) (g.O.Sink.seen c.args.out.now)) (moment (g.F.Folder.seen c.prepare.new.files) (g.O.Sink.seen c.print_figures.new.out)) (end_of c.print_figures.result) c.prepare.ensures.files c.in_ok-ready.ensures.no_fault c.prepare.ensures.write_faults refl
    (leaves_printed (settings_seen c.args.opts.now) name _ _ c.print_figures.result (λ file. refl) (λ file. refl) (λ file. refl) c.print_figures.ensures.stops c.print_figures.ensures.faults)

pub prepare-requires-clause-plans : goal.prepare-requires-clause-plans
prepare-requires-clause-plans g c = ap makes_plan c.requires.mode.1
