use Rattle.std.proofs.Common.{◌++◌, length, map, take, ap, refl, sym, ◌∙◌}
use Rattle.std.proofs.lemmas.List.{append-nil}
use Rattle.definitions.specs.believed.Statistics.{statistics}
use Rattle.coverage_measure.proofs.FigureLemmas.{tuples_are}
use Rattle.row_text.specs.RowFiles.{seeds_seen}
use Rattle.row_text.specs.Told.{statistics_seen}
use Rattle.command_line.specs.declared.stop.Stop.TheVariants.{OutOfMemory}
use Rattle.pict_cli.specs.Options.{settings_seen}
use Rattle.pict_cli.specs.believed.RowSources.{dropped_note, dropped_notes}
use Rattle.pict_cli.specs.believed.Runs.{growth_over, notes_behind, orders_of, spent_at}
use Rattle.pict_cli.specs.Steps.{StopsWork, no_memory}
use Rattle.pict_cli.proofs.Questions.{none_spent}
use Rattle.pict_cli.proofs.Suites.{if_err_of, omitted_count, proof_ready, same_statistics}
use Rattle.pict_cli.proofs.Suspicions.{work_due}
use Rattle.pict_cli.proofs.suite.make_suite.Goals as goal

pub returns-in_err-suite-clause-stops : goal.returns-in_err-suite-clause-stops
returns-in_err-suite-clause-stops g c =
    let seeds = seeds_seen c.args.seeds.now in
    let s = settings_seen c.args.opts.now in
    let over = growth_over s c.args.seed_word c.args.model.now seeds in
    let due = spent_at s.effort over in
    let later = dropped_notes c.args.model.now seeds in
    if_err_of (StopsWork due later c.args.notes.now c.args.notes.now) c.from_residual.result c.in_err-suite.field-0.0 c.from_residual.ensures.1
    (work_due due later c.args.notes.now c.in_err-suite.field-0.0 c.in_err-suite.ensures.stops)

pub returns-in_err-proof-clause-stops : goal.returns-in_err-proof-clause-stops
returns-in_err-proof-clause-stops g c =
    let seeds = seeds_seen c.args.seeds.now in
    let s = settings_seen c.args.opts.now in
    let over = growth_over s c.args.seed_word c.args.model.now seeds in
    let due = spent_at s.effort over in
    if_err_of (StopsWork due (dropped_notes c.args.model.now seeds) c.args.notes.now c.args.notes.now) c.from_residual-in_err-proof.result c.in_err-proof.field-0.0
    c.from_residual-in_err-proof.ensures.1 (no_memory 0 c.in_err-proof.ensures.stops (sym (append-nil c.args.notes.now)))

pub returns-in_err-turns-clause-stops : goal.returns-in_err-turns-clause-stops
returns-in_err-turns-clause-stops g c =
    let seeds = seeds_seen c.args.seeds.now in
    let s = settings_seen c.args.opts.now in
    let over = growth_over s c.args.seed_word c.args.model.now seeds in
    let due = spent_at s.effort over in
    if_err_of (StopsWork due (dropped_notes c.args.model.now seeds) c.args.notes.now c.args.notes.now) c.from_residual-in_err-turns.result OutOfMemory
    c.from_residual-in_err-turns.ensures.1 (no_memory 0 refl (sym (append-nil c.args.notes.now)))

pub returns-in_err-push_dropped-clause-stops : goal.returns-in_err-push_dropped-clause-stops
returns-in_err-push_dropped-clause-stops g c =
    let seeds = seeds_seen c.args.seeds.now in
    let s = settings_seen c.args.opts.now in
    let over = growth_over s c.args.seed_word c.args.model.now seeds in
    let due = spent_at s.effort over in
    let told = c.in_err-push_dropped.ensures.refused in
    if_err_of (StopsWork due (dropped_notes c.args.model.now seeds) c.args.notes.now c.push_dropped.new.notes) c.from_residual-in_err-push_dropped.result OutOfMemory
    c.from_residual-in_err-push_dropped.ensures.1
    (no_memory told.0 refl
    (told.1 ∙ ap (λ lines. c.args.notes.now ++ take told.0 (map dropped_note lines)) (c.as_slice.ensures ∙ c.in_ok-suite.ensures.suite.dropped)
    ∙ ap (λ o. c.args.notes.now ++ take told.0 (notes_behind o (dropped_notes c.args.model.now seeds))) (sym (none_spent s.effort over c.in_ok-suite.ensures.answered))))

pub returns-clause-stats : goal.returns-clause-stats
returns-clause-stats g c =
    let s = settings_seen c.args.opts.now in
    let m = c.args.model.now in
    let seeds = seeds_seen c.args.seeds.now in
    let pref = orders_of s c.args.seed_word m in
    let is = c.in_ok-suite.ensures.suite in
    let told = c.stats_of-stats.ensures in
    same_statistics (statistics_seen c.stats_of-stats.result) (statistics m pref seeds) (told.sets ∙ ap (λ plan. length plan.sets) c.requires.plan)
    (told.tuples ∙ tuples_are m c.args.plan.now c.requires.plan) (told.omitted ∙ omitted_count m pref seeds s.effort _ c.in_ok-suite.suite is) (told.kept ∙ is.kept)
    (told.tests ∙ ap length is.rows)

pub returns-clause-proof : goal.returns-clause-proof
returns-clause-proof g c =
    let s = settings_seen c.args.opts.now in
    proof_ready c.args.model.now (orders_of s c.args.seed_word c.args.model.now) (seeds_seen c.args.seeds.now) s.effort c.args.opts.now.proof c.args.opts.now.form c.in_ok-suite.suite
    c.in_ok-proof.proof.items c.in_ok-suite.ensures.suite c.in_ok-proof.ensures.text
