use Rattle.std.proofs.Common.{◌≡◌, [], true, ap, refl, subst, sym, ◌∙◌}
use Rattle.std.specs.Prelude.{All}
use Rattle.cov_model.specs.believed.Valid.{is_row}
use Rattle.row_text.specs.RowFiles.{seeds_seen}
use Rattle.row_text.specs.Told.{statistics_seen}
use Rattle.pict_cli.specs.believed.Ends.{CountsReads, Prints, end_of, moment}
use Rattle.pict_cli.specs.Ends.{IsAnswered, IsEarly}
use Rattle.pict_cli.specs.believed.Modes.{Generate, makes_plan}
use Rattle.pict_cli.specs.Options.{output_seen, settings_seen}
use Rattle.pict_cli.specs.believed.Runs.{EndsBehind, growth_of, growth_over, rows_of_run, shuffled_by, suite_text}
use Rattle.pict_cli.proofs.Behind.{ends_by, file_read, given_in, proof_same, rows_answered, rows_early, text_same, within_due, work_stopped, work_written}
use Rattle.pict_cli.proofs.Early.{leaves_early, leaves_from, proof_from, runs_early}
use Rattle.pict_cli.proofs.Headline.{suite_rows}
use Rattle.pict_cli.proofs.Questions.{IsOfSearch, due_work, none_spent, reads_searched, search_answered, search_early, search_ends}
use Rattle.pict_cli.proofs.generating.run_generating.Goals as goal

pub returns-in_err-ready-clause-runs : goal.returns-in_err-ready-clause-runs
returns-in_err-ready-clause-runs g c = λ source told.
    let s = settings_seen c.args.opts.now in
    let m = c.args.model.now in
    let seed = c.args.seed_word in
    let end = c.from_residual.result in
    let e = ends_by end c.in_err-ready.field-0.0 c.from_residual.ensures.1 in
    runs_early s seed m source c.args.row_notes.now _ _ end c.assert_invariant.ensures
    (subst (λ x. IsEarly (end_of x)) (sym e) (rows_early c.in_err-ready.field-0.0 c.in_err-ready.ensures.other)) c.prepare.ensures.files refl
    (subst (λ notes. EndsBehind s seed m source notes end) (sym c.requires.none) (subst (EndsBehind s seed m source []) (sym e) (c.in_err-ready.ensures.stops seed source told)))

pub returns-in_err-ready-clause-leaves : goal.returns-in_err-ready-clause-leaves
returns-in_err-ready-clause-leaves g c = λ name.
    let s = settings_seen c.args.opts.now in
    let end = c.from_residual.result in
    let e = ends_by end c.in_err-ready.field-0.0 c.from_residual.ensures.1 in
    leaves_early s name _ _ (end_of end) (subst (λ x. IsEarly (end_of x)) (sym e) (rows_early c.in_err-ready.field-0.0 c.in_err-ready.ensures.other))
    (subst (λ x. IsAnswered s.effort (end_of x)) (sym e) (rows_answered s.effort c.in_err-ready.field-0.0 c.in_err-ready.ensures.other)) c.prepare.ensures.files
    (subst (λ x. CountsReads s name (end_of x) (g.F.Folder.seen c.args.files.now) (g.F.Folder.seen c.prepare.new.files)) (sym e) (c.in_err-ready.ensures.reads name))
    c.prepare.ensures.write_faults refl

pub returns-in_err-suite-clause-runs : goal.returns-in_err-suite-clause-runs
returns-in_err-suite-clause-runs g c = λ source told.
    let s = settings_seen c.args.opts.now in
    let m = c.args.model.now in
    let file = c.in_ok-ready.ready.file in
    let plans = ap makes_plan c.requires.mode in
    let read = c.in_ok-ready.ensures.rows source told in
    let stop = c.in_err-suite.field-0.0 in
    let end = c.from_residual-in_err-suite.result in
    let e = ends_by end stop c.from_residual-in_err-suite.ensures.1 in
    runs_early s c.args.seed_word m source c.make_suite.new.notes _ _ end c.assert_invariant.ensures
    (search_early s.effort (end_of end) (subst (λ x. IsOfSearch s.effort (end_of x)) (sym e)
    (search_ends s.effort _ stop (due_work _ _ _ _ stop c.in_err-suite.ensures.stops)))) c.prepare.ensures.files refl
    (work_stopped s c.args.seed_word m source (given_in file read.reading) file.notes (within_due s m plans c.in_ok-ready.ensures.within) (Generate (output_seen c.args.output))
    c.requires.mode (file_read s m source file plans read) read.holds.notes stop end c.make_suite.new.notes e c.in_err-suite.ensures.stops)

pub returns-in_err-suite-clause-leaves : goal.returns-in_err-suite-clause-leaves
returns-in_err-suite-clause-leaves g c = λ name.
    let s = settings_seen c.args.opts.now in
    let end = c.from_residual-in_err-suite.result in
    let stop = c.in_err-suite.field-0.0 in
    let of =
    subst (λ x. IsOfSearch s.effort (end_of x)) (sym (ends_by end stop c.from_residual-in_err-suite.ensures.1))
    (search_ends s.effort _ stop (due_work _ _ _ _ stop c.in_err-suite.ensures.stops)) in
    leaves_early s name _ _ (end_of end) (search_early s.effort (end_of end) of) (search_answered s.effort (end_of end) of) c.prepare.ensures.files
    (reads_searched s name (end_of end) (g.F.Folder.seen c.args.files.now) (g.F.Folder.seen c.prepare.new.files) of c.in_ok-ready.ensures.no_fault) c.prepare.ensures.write_faults refl

pub write_suite-requires-clause-rows : goal.write_suite-requires-clause-rows
write_suite-requires-clause-rows g c =
    subst (All (λ row. is_row c.args.model.now row ≡ true)) (sym c.in_ok-suite.ensures.rows)
    (suite_rows c.args.model.now (shuffled_by (settings_seen c.args.opts.now).shuffle c.args.seed_word) (seeds_seen c.in_ok-ready.ready.file) c.assert_invariant.ensures)

pub returns-clause-runs : goal.returns-clause-runs
returns-clause-runs g c = λ source told.
    let s = settings_seen c.args.opts.now in
    let m = c.args.model.now in
    let seed = c.args.seed_word in
    let file = c.in_ok-ready.ready.file in
    let seeds = seeds_seen file in
    let output = output_seen c.args.output in
    let plans = ap makes_plan c.requires.mode in
    let within = within_due s m plans c.in_ok-ready.ensures.within in
    let read = c.in_ok-ready.ensures.rows source told in
    let given = given_in file read.reading in
    let reads = file_read s m source file plans read in
    let end = c.write_suite.result in
    let suite = c.in_ok-suite.suite in
    let before = g.F.Folder.seen c.args.files.now in
    let loaded = g.F.Folder.seen c.prepare.new.files in
    let after = g.F.Folder.seen c.write_suite.new.files in
    record {
      sound = c.assert_invariant.ensures;
      ends =
          work_written s seed m source given file.notes within (Generate output) c.requires.mode reads read.holds.notes end c.make_suite.new.notes
          (none_spent s.effort (growth_over s seed m seeds) c.in_ok-suite.ensures.answered) c.in_ok-suite.ensures.notes c.write_suite.ensures.stops;
      prints =
          subst (λ text. Prints text (g.O.Sink.seen c.args.out.now) (g.O.Sink.seen c.write_suite.new.out) (end_of end))
          (ap (λ rows. suite_text output m rows (statistics_seen suite.stats)) c.in_ok-suite.ensures.rows
          ∙ ap (suite_text output m (growth_of s seed m seeds).rows) c.in_ok-suite.ensures.stats
          ∙ sym (text_same s seed m source given file.notes within (Generate output) c.requires.mode reads read.holds.notes))
          c.write_suite.ensures.prints;
      writes =
          proof_from s seed m (rows_of_run s m source) before loaded after (end_of end) c.prepare.ensures.files
          (proof_same s seed m source given file.notes within (Generate output) c.requires.mode reads read.holds.notes loaded after (end_of end)
          (c.write_suite.ensures.writes seed seeds c.in_ok-suite.ensures.proof));
      others = λ file other. (c.write_suite.ensures.leaves file).others file other ∙ c.prepare.ensures.files file;
    }

pub returns-clause-leaves : goal.returns-clause-leaves
returns-clause-leaves g c = λ name.
    leaves_from (settings_seen c.args.opts.now) name (moment (g.F.Folder.seen c.args.files.now) (g.O.Sink.seen c.args.out.now))
    (moment (g.F.Folder.seen c.prepare.new.files) (g.O.Sink.seen c.args.out.now)) (moment (g.F.Folder.seen c.write_suite.new.files) (g.O.Sink.seen c.write_suite.new.out)) (end_of c.write_suite.result) c.prepare.ensures.files c.in_ok-ready.ensures.no_fault c.prepare.ensures.write_faults refl
    (c.write_suite.ensures.leaves name)

pub prepare-requires-clause-plans : goal.prepare-requires-clause-plans
prepare-requires-clause-plans g c = ap makes_plan c.requires.mode
