use Rattle.row_text.specs.RowFiles.{suite_seen}
use Rattle.suite_facts.proofs.CountLemmas.{as_many}
use Rattle.suite_facts.proofs.coverage.coverage_of.Goals as goal

pub count_sets-requires : goal.count_sets-requires
count_sets-requires g c = record {
  long = as_many c.args.model.now c.args.plan.now (suite_seen c.args.file.now) c.in_ok-marks.marks c.requires.plan c.in_ok-marks.ensures;
}

pub returns : goal.returns
returns g c = c.count_sets.ensures c.args.model.now (suite_seen c.args.file.now) c.requires.plan c.in_ok-marks.ensures
