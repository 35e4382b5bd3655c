use Rattle.std.proofs.Common.{◌∙◌, ap}
use Rattle.std.specs.Prelude.{sum}
use Rattle.row_text.specs.RowFiles.{suite_seen}
use Rattle.shared_marks.proofs.PlaceLemmas.{all_places}
use Rattle.suite_facts.proofs.CurveLemmas.{covered_none}
use Rattle.suite_facts.proofs.curve.covered_after.Goals as goal

pub cover_each-requires-clause-bits : goal.cover_each-requires-clause-bits
cover_each-requires-clause-bits c =
    c.in_ok-table.ensures.0 ∙ c.count_tuples-places.ensures ∙ ap (λ p. sum p.sizes) c.requires.plan ∙ all_places c.args.model.now

pub cover_each-requires-clause-holds : goal.cover_each-requires-clause-holds
cover_each-requires-clause-holds c = covered_none c.args.model.now (suite_seen c.args.file.now) c.in_ok-table.table.table c.in_ok-table.seat c.in_ok-table.ensures.1
