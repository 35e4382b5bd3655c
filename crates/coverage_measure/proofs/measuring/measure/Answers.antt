use Rattle.std.proofs.Common.{length, ◌∙◌, sym, ap}
use Rattle.std.proofs.lemmas.List.{length-map}
use Rattle.definitions.specs.believed.Demand.{demanded_tuples}
use Rattle.definitions.specs.believed.Figures.{is_served, tests_of}
use Rattle.row_text.specs.RowFiles.{suite_seen}
use Rattle.coverage_measure.proofs.FigureLemmas.{figures_are, tuples_are}
use Rattle.coverage_measure.proofs.measuring.measure.Goals as goal

pub measure_sets-requires-clause-marks : goal.measure_sets-requires-clause-marks
measure_sets-requires-clause-marks g c =
    let m = c.args.model.now in
    ap length c.in_ok-marks.ensures ∙ length-map (demanded_tuples m) (is_served m (tests_of m (suite_seen c.args.suite.now))) ∙ sym (tuples_are m c.args.plan.now c.requires.plan)

pub returns-clause-figures : goal.returns-clause-figures
returns-clause-figures g c =
    figures_are c.args.model.now c.args.plan.now (suite_seen c.args.suite.now) c.count_rows-rows.result c.in_ok-sets.sets c.set_count.result c.count_tuples.result c.requires.plan
    c.count_rows-rows.ensures (c.in_ok-sets.ensures.figures (suite_seen c.args.suite.now) c.in_ok-marks.ensures) c.set_count.ensures.value c.count_tuples.ensures
